-- A record whose fields still stand in bytes.
use Rattle.hg_message.specs.declared.record.RecordBytes.{RecordBytes}
use Rattle.hg_message.specs.Record.{RecordFields}

-- what the bytes of the fields say
abbrev pub fields_of : RecordBytes → RecordFields
fields_of f = record { id = f.id; p = f.p; q = f.q; text = f.text.now }
