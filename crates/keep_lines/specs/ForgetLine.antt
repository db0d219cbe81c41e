-- What a line says that forgets snapshots.
use Rattle.std.specs.Prelude.{ℕ, ⊤, ◌&&◌, nat_le, Bool, IsTrue, List, ◌++◌, codes, count_by, is_some, string_bytes}
use Rattle.std.specs.Fmt.{decimal}
use Rattle.std.specs.Str.Iter.{LacksByte}
use Rattle.keep_lines.specs.Policies.{counted_by}
use Rattle.keep_lines.specs.declared.forget_line.ForgetLine.{ForgetLine}
use Rattle.keep_lines.specs.declared.forget_line.Rule.{Rule}
use Rattle.keep_lines.specs.declared.forget_line.Rule.TheVariants as rule
use Rattle.keep_lines.specs.declared.forget_line.Span.{Span}
use Rattle.keep_lines.specs.declared.forget_line.Span.TheVariants.{Last, Day, Week, Month, Year}
use Rattle.keep_labels.specs.declared.count.Count.{Count}
use Rattle.keep_lines.specs.WordList.{IsForFilter, filter_text}

-- how many are kept, behind a name and `=`
abbrev pub count_text : List ℕ → Count → List ℕ
count_text name count = name ++ (codes "=" ++ decimal count.number)

-- the word for a rule
abbrev pub rule_text : Rule → List ℕ
rule_text (rule.Last count) = count_text (codes "last") count
rule_text (rule.Daily count) = count_text (codes "daily") count
rule_text (rule.Weekly count) = count_text (codes "weekly") count
rule_text (rule.Monthly count) = count_text (codes "monthly") count
rule_text (rule.Yearly count) = count_text (codes "yearly") count
rule_text (rule.Tag tag) = codes "tag" ++ (codes "=" ++ string_bytes tag)

-- one whose word has no space
abbrev pub IsRule : Rule → Type 0
IsRule r = LacksByte 32 (rule_text r)

-- one that counts
abbrev pub IsCounted : Rule → Type 0
IsCounted (rule.Tag tag) = ⊥
IsCounted _ = ⊤

-- whether at most one of the rules counts these
abbrev pub stands_once : Span → List Rule → Bool
stands_once span rules = nat_le (count_by (λ r. is_some (counted_by span r)) rules) 1

-- whether each count stands at most once
abbrev pub count_once : List Rule → Bool
count_once rules =
    stands_once Last rules && stands_once Day rules && stands_once Week rules && stands_once Month rules
    && stands_once Year rules

-- `FILTER RULE ..`
abbrev pub forget_text : ForgetLine → List ℕ
forget_text forget = filter_text rule_text (forget.filter, forget.rules)

abbrev pub IsForget : ForgetLine → Type 0
IsForget forget = IsForFilter IsRule (forget.filter, forget.rules) × IsTrue (count_once forget.rules.items)
