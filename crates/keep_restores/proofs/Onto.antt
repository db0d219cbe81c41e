-- One node more is looked at, from the last one on.
use Rattle.std.proofs.Common.{if◌then◌else◌, ◌≡◌, ◌||◌, Bool, List, [], ◌∷◌, ◌++◌, Option, map, refl, sym, ap, ◌∙◌, string_bytes}
use Rattle.std.proofs.lemmas.List.{map-append}
use Rattle.std.specs.Str.{chars}
use Rattle.keep_nodes.specs.Choosing.{names_in}
use Rattle.keep_nodes.specs.Entries.{EntryData, entry_view}
use Rattle.keep_nodes.specs.declared.path_node.PathNode.{PathNode}
use Rattle.keep_restores.specs.Choosing.{chosen_before, chosen_onto, first, is_within, leads_to}
use Rattle.keep_patterns.specs.Parsing.{PatternData}

onto_last : (patterns : List PatternData) (entries : List EntryData) (last : EntryData) (behind : List EntryData)
    → chosen_onto patterns (entries ++ last ∷ []) behind ≡ chosen_onto patterns entries (chosen_before patterns last behind)
onto_last patterns [] last behind = refl
onto_last patterns (entry ∷ entries) last behind = ap (chosen_before patterns entry) (onto_last patterns entries last behind)

pub one_more : (patterns : List PatternData) (rest front : List PathNode) (last : PathNode) (behind whole : List EntryData) (next : Option EntryData) (chosen : Bool)
    → rest ≡ front ++ last ∷ []
    → chosen ≡ (is_within patterns (map chars (names_in (string_bytes last.path))) || leads_to (string_bytes last.path) next)
    → next ≡ first behind
    → chosen_onto patterns (map entry_view rest) behind ≡ whole
    → chosen_onto patterns (map entry_view front) (if chosen then entry_view last ∷ behind else behind) ≡ whole
one_more patterns rest front last behind whole next chosen split is is_next so_far =
    let asked = is_within patterns (map chars (names_in (string_bytes last.path))) in
    let path = string_bytes last.path in
    let same : (if chosen then entry_view last ∷ behind else behind) ≡ chosen_before patterns (entry_view last) behind =
    ap (λ (b : Bool). if b then entry_view last ∷ behind else behind) (is ∙ ap (λ (n : Option EntryData). asked || leads_to path n) is_next) in
    ap (chosen_onto patterns (map entry_view front)) same
    ∙ sym (onto_last patterns (map entry_view front) (entry_view last) behind)
    ∙ ap (λ (l : List EntryData). chosen_onto patterns l behind) (sym (map-append entry_view front (last ∷ [])))
    ∙ ap (λ (r : List PathNode). chosen_onto patterns (map entry_view r) behind) (sym split)
    ∙ so_far
