-- What a node calls changesets.
use Rattle.std.specs.Prelude.{Option}
use Rattle.std.specs.Option.{option_and_then, option_map_or}
use Rattle.hg_changeset.specs.declared.node.Node.{Node}
use Rattle.hg_replica.specs.Content.{Content}
use Rattle.hg_log.specs.Drawings.{Text, short_id}
use Rattle.hg_log.specs.Titles.{escaped, title}

-- the first line of its description, where it is held and its text is that of an entry
abbrev pub title_at : Content → Node → Option Text
title_at f n = option_and_then (λ h. title h.changeset.text) (f.0 n)

-- its title as it is written, or else its short id
abbrev pub name_of : Content → Node → Text
name_of f n = option_map_or escaped (title_at f n) (short_id n)
