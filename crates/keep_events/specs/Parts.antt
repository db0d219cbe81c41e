-- What a change writes, part by part.
use Rattle.std.specs.Prelude.{ℕ, List, [], ◌∷◌, ◌++◌, codes, length, map, Option, None, Some, option_map, pos}
use Rattle.serde_json.specs.Data.{Data, string, object, member, no_members}
use Rattle.keep_names.specs.FileName.{kind_text, named}
use Rattle.keep_names.specs.Id.{id_text}
use Rattle.keep_names.specs.declared.file_name.Kind.TheVariants.{Pack}
use Rattle.keep_docs.specs.Fields.{id_data}
use Rattle.keep_change.specs.NamedBytes.{NamedBytes}
use Rattle.keep_change.specs.declared.change.Change.{Change}
use Rattle.keep_change.specs.declared.change.PackMark.{PackMark}
use Rattle.keep_tables.specs.declared.table.Side.{Side}
use Rattle.keep_tables.specs.declared.table.Side.TheVariants.{Left, Right}
use Rattle.keep_rows.specs.Values.{maybe_number, maybe_text, size_cell, utc_of, when_cell}
use Rattle.keep_events.specs.Deeds.{in_utc}
use Rattle.keep_events.specs.declared.part.PartRow.{PartRow}
use Rattle.keep_events.specs.declared.part.Sign.{Sign}
use Rattle.keep_events.specs.declared.part.Sign.TheVariants.{Added, Dropped, Set, Cleared}

-- a file that comes or goes, and a mark
abbrev pub file_part : Sign → NamedBytes → PartRow
file_part sign f = record { sign = sign; name = f.name; size = Some (length f.bytes); at = None }

abbrev pub mark_part : Sign → PackMark → PartRow
mark_part sign m = record { sign = sign; name = named Pack m.pack; size = None; at = Some (in_utc m.mark.moment) }

-- the files that a change adds and drops, and the marks that it sets and clears, in its order
abbrev pub parts_of : Change → List PartRow
parts_of c =
    map (file_part Added) c.adds ++ map (file_part Dropped) c.drops ++ map (mark_part Set) c.sets
    ++ map (mark_part Cleared) c.clears

abbrev pub sign_text : Sign → List ℕ
sign_text Added = codes "+"
sign_text Dropped = codes "-"
sign_text Set = codes "*"
sign_text Cleared = codes "~"

abbrev pub sign_word : Sign → List ℕ
sign_word Added = codes "added"
sign_word Dropped = codes "dropped"
sign_word Set = codes "set"
sign_word Cleared = codes "cleared"

abbrev pub part_sides : List Side
part_sides = Left ∷ Left ∷ Left ∷ Right ∷ Left ∷ []

abbrev pub part_head : List (List ℕ)
part_head = codes "" ∷ codes "Kind" ∷ codes "ID" ∷ codes "Size" ∷ codes "Marked at" ∷ []

abbrev pub part_cells : PartRow → List (List ℕ)
part_cells row =
    sign_text row.sign ∷ kind_text row.name.kind ∷ id_text row.name.id ∷ size_cell row.size ∷ when_cell row.at ∷ []

abbrev pub part_data : PartRow → Data
part_data row =
    object
    (member (codes "id") (id_data row.name.id)
    (member (codes "kind") (string (kind_text row.name.kind))
    (member (codes "marked_at") (maybe_text (option_map utc_of row.at))
    (member (codes "size") (maybe_number row.size)
    (member (codes "what") (string (sign_word row.sign)) no_members)))))
