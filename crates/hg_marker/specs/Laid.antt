-- A marker whose fields still stand in bytes.
use Rattle.hg_marker.specs.declared.format.FieldBytes.{FieldBytes}
use Rattle.hg_marker.specs.Fields.{Fields}
use Rattle.hg_marker.specs.Metadata.{pieces, texts}
use Rattle.hg_marker.specs.Reading.{ids_in}

-- what the bytes of the fields say
abbrev pub fields_of : FieldBytes → Fields
fields_of f = record {
  predecessor = f.predecessor;
  successors = ids_in f.count f.ids.now;
  flags = f.flags;
  metadata = texts (pieces f.metadata.now);
}
