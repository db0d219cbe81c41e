-- A line has one command: its text tells its first word, and the values behind it.
use Rattle.std.proofs.Common.{◌≡◌, ℕ, ◌<◌, ◌^◌, List, [], ◌∷◌, ◌++◌, codes, map, Option, Some, None, String, string_bytes, refl, sym, ap, ap₂, subst, ◌∙◌, lit<, arith}
use Rattle.std.proofs.lemmas.Fmt.{decimal_injective}
use Rattle.std.proofs.lemmas.List.{append_cancel_left}
use Rattle.std.specs.Fmt.{decimal}
use Rattle.std.specs.Global.{Global, Vec}
use Rattle.std.specs.List.{AllByRecursion, join_with_byte}
use Rattle.std.specs.Prelude.{if◌then◌else◌}
use Rattle.hex.specs.Hex.{IsBytes}
use Rattle.keep_labels.specs.declared.count.Count as the_count
use Rattle.keep_names.specs.FileName.{kind_text}
use Rattle.keep_lines.proofs.RewriteWords.{flagged_lack}
use Rattle.keep_lines.proofs.SaidTexts as texts
use Rattle.keep_lines.proofs.SaidTexts.{begins, bytes_told, file_text, files_told, flag_told, kind_told, rules_told, tags_told, target_told, words_told}
use Rattle.keep_lines.proofs.WordLists.{all_lack}
use Rattle.keep_lines.specs.BackupLine.{IsFile, file_word}
use Rattle.keep_lines.specs.Command.{IsCommand, command_text}
use Rattle.keep_lines.specs.ForgetLine.{IsRule, rule_text}
use Rattle.keep_lines.specs.RewriteLine.{IsClear, flagged}
use Rattle.keep_lines.specs.Said.{HasOneCommand, RuleData, TagData, Values, Verb, command_said, file_said, rule_said, tag_said, with, Undo, Redo, Empty, Cascade, ListFiles, Count, History, Same, Restore, Audit, Totals, Note, Arm, Add, Drop, Backup, Tag, Forget, Rewrite, Repair, Mark, Sweep}
use Rattle.keep_lines.specs.TagLine.{IsTagWord, tag_word_text}
use Rattle.keep_lines.specs.Word.{IsTarget, hex_text, target_text}
use Rattle.keep_lines.specs.WordList.{AreSpaceless}
use Rattle.keep_lines.specs.declared.command.Command.{Command}
use Rattle.keep_lines.specs.declared.command.Command.TheVariants as the_command
use Rattle.keep_lines.specs.declared.forget_line.Rule.{Rule}
use Rattle.keep_lines.specs.declared.forget_line.Rule.TheVariants as rule
use Rattle.keep_lines.specs.declared.job_line.JobLine.TheVariants as job
use Rattle.keep_lines.specs.declared.question.Question.TheVariants as question
use Rattle.keep_lines.specs.declared.raw_file.RawFile.TheVariants as raw_file
use Rattle.keep_lines.specs.declared.revision.Revision.TheVariants as revision
use Rattle.keep_lines.specs.declared.tag_line.TagWord.{TagWord}
use Rattle.keep_lines.specs.declared.tag_line.TagWord.TheVariants as tag_word

-- ---- the text of what is said

abbrev pub sweep_text : Option ℕ → List ℕ
sweep_text None = codes "sweep"
sweep_text (Some wait) = codes "sweep " ++ decimal wait

abbrev pub text_of : (verb : Verb) → Values verb → List ℕ
text_of Undo n = codes "undo " ++ decimal n
text_of Redo n = codes "redo " ++ decimal n
text_of Empty n = codes "empty " ++ decimal n
text_of Cascade n = codes "cascade " ++ decimal n
text_of ListFiles v = codes "list"
text_of Count v = codes "count"
text_of History v = codes "history"
text_of Same name = codes "same " ++ name
text_of Restore target = codes "restore " ++ target_text target
text_of Audit v = codes "audit"
text_of Totals v = codes "totals"
text_of Note name = codes "note " ++ name
text_of Arm name = codes "arm " ++ name
text_of Add v = codes "add " ++ (kind_text v.0 ++ (codes " " ++ hex_text v.1))
text_of Drop v = codes "drop " ++ (kind_text v.0 ++ (codes " " ++ target_text v.1))
text_of Backup v = codes "backup " ++ join_with_byte 32 (v.0 ∷ v.1 ∷ map file_text v.2)
text_of Tag v = codes "tag " ++ join_with_byte 32 (v.0 ∷ map texts.tag_text v.1)
text_of Forget v = codes "forget " ++ join_with_byte 32 (v.0 ∷ map texts.rule_text v.1)
text_of Rewrite v = codes "rewrite " ++ join_with_byte 32 (v.0 ∷ flagged v.1 v.2)
text_of Repair v = codes "repair"
text_of Mark v = codes "mark"
text_of Sweep v = sweep_text v

abbrev pub IsWait : Option ℕ → Type 0
IsWait None = Unit {0}
IsWait (Some wait) = wait < 2 ^ 64

-- values that a line can have
abbrev pub Counts : (verb : Verb) → Values verb → Type 0
Counts Undo n = n < 2 ^ 64
Counts Redo n = n < 2 ^ 64
Counts Empty n = n < 2 ^ 64
Counts Cascade n = n < 2 ^ 64
Counts ListFiles v = Unit {0}
Counts Count v = Unit {0}
Counts History v = Unit {0}
Counts Same name = Unit {0}
Counts Restore target = IsTarget target
Counts Audit v = Unit {0}
Counts Totals v = Unit {0}
Counts Note name = Unit {0}
Counts Arm name = Unit {0}
Counts Add v = IsBytes v.1
Counts Drop v = IsTarget v.1
Counts Backup v = AreSpaceless (v.0 ∷ v.1 ∷ map file_text v.2) × AllByRecursion texts.HasBytes v.2
Counts Tag v = AreSpaceless (v.0 ∷ map texts.tag_text v.1)
Counts Forget v = AreSpaceless (v.0 ∷ map texts.rule_text v.1) × AllByRecursion texts.IsSmall v.1
Counts Rewrite v = AreSpaceless (v.0 ∷ flagged v.1 v.2) × IsClear v.1 v.2
Counts Repair v = Unit {0}
Counts Mark v = Unit {0}
Counts Sweep v = IsWait v

-- ---- the first word

-- the first word that a text begins with
verb_in : List ℕ → Verb
verb_in text =
    if begins (codes "undo ") text then Undo
    else (if begins (codes "redo ") text then Redo
    else (if begins (codes "empty ") text then Empty
    else (if begins (codes "cascade ") text then Cascade
    else (if begins (codes "list") text then ListFiles
    else (if begins (codes "count") text then Count
    else (if begins (codes "history") text then History
    else (if begins (codes "same ") text then Same
    else (if begins (codes "restore ") text then Restore
    else (if begins (codes "audit") text then Audit
    else (if begins (codes "totals") text then Totals
    else (if begins (codes "note ") text then Note
    else (if begins (codes "arm ") text then Arm
    else (if begins (codes "add ") text then Add
    else (if begins (codes "drop ") text then Drop
    else (if begins (codes "backup ") text then Backup
    else (if begins (codes "tag ") text then Tag
    else (if begins (codes "forget ") text then Forget
    else (if begins (codes "rewrite ") text then Rewrite
    else (if begins (codes "repair") text then Repair
    else (if begins (codes "mark") text then Mark else Sweep))))))))))))))))))))

verb_read : (verb : Verb) (values : Values verb) → verb_in (text_of verb values) ≡ verb
unfolding verb_in
verb_read Undo v = refl
verb_read Redo v = refl
verb_read Empty v = refl
verb_read Cascade v = refl
verb_read ListFiles v = refl
verb_read Count v = refl
verb_read History v = refl
verb_read Same v = refl
verb_read Restore v = refl
verb_read Audit v = refl
verb_read Totals v = refl
verb_read Note v = refl
verb_read Arm v = refl
verb_read Add v = refl
verb_read Drop v = refl
verb_read Backup v = refl
verb_read Tag v = refl
verb_read Forget v = refl
verb_read Rewrite v = refl
verb_read Repair v = refl
verb_read Mark v = refl
verb_read Sweep None = refl
verb_read Sweep (Some wait) = refl

-- ---- the values behind it

-- three values are told each by itself
three : {A B C : Type 0} (x y : A × B × C) → x.0 ≡ y.0 → x.1 ≡ y.1 → x.2 ≡ y.2 → x ≡ y
three {A} {B} {C} x y p q r = ap₂ (λ (a : A) (rest : B × C). (a, rest.0, rest.1)) p (ap₂ (λ (b : B) (c : C). (b, c)) q r)

number_told : (front : List ℕ) (m n : ℕ) → m < 2 ^ 64 → n < 2 ^ 64 → front ++ decimal m ≡ front ++ decimal n → m ≡ n
number_told front m n h k e = decimal_injective m n h k (append_cancel_left front (decimal m) (decimal n) e)

wait_told : (x y : Option ℕ) → IsWait x → IsWait y → sweep_text x ≡ sweep_text y → x ≡ y
wait_told None None h k e = refl
wait_told None (Some n) h k e = cc e
wait_told (Some m) None h k e = cc e
wait_told (Some m) (Some n) h k e = ap Some (number_told (codes "sweep ") m n h k e)

values_told : (verb : Verb) (x y : Values verb) → Counts verb x → Counts verb y → text_of verb x ≡ text_of verb y → x ≡ y
values_told Undo x y h k e = number_told (codes "undo ") x y h k e
values_told Redo x y h k e = number_told (codes "redo ") x y h k e
values_told Empty x y h k e = number_told (codes "empty ") x y h k e
values_told Cascade x y h k e = number_told (codes "cascade ") x y h k e
values_told ListFiles x y h k e = refl
values_told Count x y h k e = refl
values_told History x y h k e = refl
values_told Same x y h k e = append_cancel_left (codes "same ") x y e
values_told Restore x y h k e = target_told x y h k (append_cancel_left (codes "restore ") (target_text x) (target_text y) e)
values_told Audit x y h k e = refl
values_told Totals x y h k e = refl
values_told Note x y h k e = append_cancel_left (codes "note ") x y e
values_told Arm x y h k e = append_cancel_left (codes "arm ") x y e
values_told Add x y h k e =
    let told = kind_told x.0 y.0 (hex_text x.1) (hex_text y.1) (append_cancel_left (codes "add ") (kind_text x.0 ++ (codes " " ++ hex_text x.1)) (kind_text y.0 ++ (codes " " ++ hex_text y.1)) e) in
    ap₂ (λ kind (bytes : List ℕ). (kind, bytes)) told.0 (bytes_told x.1 y.1 h k told.1)
values_told Drop x y h k e =
    let told = kind_told x.0 y.0 (target_text x.1) (target_text y.1) (append_cancel_left (codes "drop ") (kind_text x.0 ++ (codes " " ++ target_text x.1)) (kind_text y.0 ++ (codes " " ++ target_text y.1)) e) in
    ap₂ (λ kind target. (kind, target)) told.0 (target_told x.1 y.1 h k told.1)
values_told Backup x y h k e =
    let host = words_told x.0 y.0 (x.1 ∷ map file_text x.2) (y.1 ∷ map file_text y.2) h.0 k.0 (append_cancel_left (codes "backup ") _ _ e) in
    let time : x.1 ≡ y.1 = cc host.1 in
    let files : map file_text x.2 ≡ map file_text y.2 = cc host.1 in
    three x y host.0 time (files_told x.2 y.2 h.1 k.1 files)
values_told Tag x y h k e =
    let told = words_told x.0 y.0 (map texts.tag_text x.1) (map texts.tag_text y.1) h k (append_cancel_left (codes "tag ") _ _ e) in
    ap₂ (λ (filter : List ℕ) (tags : List TagData). (filter, tags)) told.0 (tags_told x.1 y.1 told.1)
values_told Forget x y h k e =
    let told = words_told x.0 y.0 (map texts.rule_text x.1) (map texts.rule_text y.1) h.0 k.0 (append_cancel_left (codes "forget ") _ _ e) in
    ap₂ (λ (filter : List ℕ) (rules : List RuleData). (filter, rules)) told.0 (rules_told x.1 y.1 h.1 k.1 told.1)
values_told Rewrite x y h k e =
    let told = words_told x.0 y.0 (flagged x.1 x.2) (flagged y.1 y.2) h.0 k.0 (append_cancel_left (codes "rewrite ") _ _ e) in
    let flag = flag_told x.1 y.1 x.2 y.2 told.1 h.1 k.1 in
    three x y told.0 flag.0 flag.1
values_told Repair x y h k e = refl
values_told Mark x y h k e = refl
values_told Sweep x y h k e = wait_told x y h k e

-- so what is said is told by its text
said_told : (v w : Verb) (x : Values v) (y : Values w) → Counts v x → Counts w y → text_of v x ≡ text_of w y → with v x ≡ with w y
said_told v w x y h k e =
    let same : v ≡ w = sym (verb_read v x) ∙ ap verb_in e ∙ verb_read w y in
    subst (λ (u : Verb). (z : Values u) → Counts u z → text_of v x ≡ text_of u z → with v x ≡ with u z) same
    (λ z i f. ap (λ (values : Values v). with v values) (values_told v x z h i f)) y k e

-- ---- what commands say

files_said : (files : List (String Global × Vec ℕ)) → map file_text (map file_said files) ≡ map file_word files
files_said [] = refl
files_said (file ∷ files) = ap (λ l. file_word file ∷ l) (files_said files)

tag_printed : (word : TagWord) → texts.tag_text (tag_said word) ≡ tag_word_text word
tag_printed (tag_word.Add tag) = refl
tag_printed (tag_word.Remove tag) = refl
tag_printed (tag_word.Set tag) = refl

tags_said : (words : List TagWord) → map texts.tag_text (map tag_said words) ≡ map tag_word_text words
tags_said [] = refl
tags_said (word ∷ words) = ap₂ (λ x xs. x ∷ xs) (tag_printed word) (tags_said words)

rule_printed : (r : Rule) → texts.rule_text (rule_said r) ≡ rule_text r
rule_printed (rule.Last count) = refl
rule_printed (rule.Daily count) = refl
rule_printed (rule.Weekly count) = refl
rule_printed (rule.Monthly count) = refl
rule_printed (rule.Yearly count) = refl
rule_printed (rule.Tag tag) = refl

rules_said : (rules : List Rule) → map texts.rule_text (map rule_said rules) ≡ map rule_text rules
rules_said [] = refl
rules_said (r ∷ rules) = ap₂ (λ x xs. x ∷ xs) (rule_printed r) (rules_said rules)

-- a command's text is that of what it says
printed : (c : Command) → text_of (command_said c).verb (command_said c).values ≡ command_text c
printed (the_command.Job (job.Backup backup)) =
    ap (λ (words : List (List ℕ)). codes "backup " ++ join_with_byte 32 (string_bytes backup.host ∷ string_bytes backup.time ∷ words)) (files_said backup.files.items)
printed (the_command.Job (job.Tag tag)) = ap (λ (words : List (List ℕ)). codes "tag " ++ join_with_byte 32 (string_bytes tag.filter ∷ words)) (tags_said tag.words.items)
printed (the_command.Job (job.Forget forget)) =
    ap (λ (words : List (List ℕ)). codes "forget " ++ join_with_byte 32 (string_bytes forget.filter ∷ words)) (rules_said forget.rules.items)
printed (the_command.Job (job.Rewrite rewrite)) = refl
printed (the_command.Job job.Repair) = refl
printed (the_command.Job job.Mark) = refl
printed (the_command.Job (job.Sweep None)) = refl
printed (the_command.Job (job.Sweep (Some wait))) = refl
printed (the_command.RawFile (raw_file.Add kind bytes)) = refl
printed (the_command.RawFile (raw_file.Drop kind target)) = refl
printed (the_command.Revision (revision.Undo n)) = refl
printed (the_command.Revision (revision.Redo n)) = refl
printed (the_command.Revision (revision.Empty n)) = refl
printed (the_command.Cascade n) = refl
printed (the_command.Question question.List) = refl
printed (the_command.Question question.Count) = refl
printed (the_command.Question question.History) = refl
printed (the_command.Question (question.Same name)) = refl
printed (the_command.Question (question.Restore target)) = refl
printed (the_command.Question question.Audit) = refl
printed (the_command.Question question.Totals) = refl
printed (the_command.Note name) = refl
printed (the_command.Arm name) = refl

files_count : (files : List (String Global × Vec ℕ)) → AllByRecursion IsFile files → AllByRecursion texts.HasBytes (map file_said files)
files_count [] h = tt
files_count (file ∷ files) h = (h.0.1, files_count files h.1)

small : (count : the_count.Count) → count.number < 2 ^ 64
small count =
    let wide : 1048576 < 2 ^ 64 = lit< tt in
    omega (arith, wide, count.in_range)

rule_counts : (r : Rule) → texts.IsSmall (rule_said r)
rule_counts (rule.Last count) = small count
rule_counts (rule.Daily count) = small count
rule_counts (rule.Weekly count) = small count
rule_counts (rule.Monthly count) = small count
rule_counts (rule.Yearly count) = small count
rule_counts (rule.Tag tag) = tt

rules_count : (rules : List Rule) → AllByRecursion texts.IsSmall (map rule_said rules)
rules_count [] = tt
rules_count (r ∷ rules) = (rule_counts r, rules_count rules)

-- and its values count
counted : (c : Command) → IsCommand c → Counts (command_said c).verb (command_said c).values
counted (the_command.Job (job.Backup backup)) h = (
  (h.0.1, (h.1.1, subst AreSpaceless (sym (files_said backup.files.items)) (all_lack IsFile file_word (λ file said. said.0) backup.files.items h.2))),
  files_count backup.files.items h.2,
)
counted (the_command.Job (job.Tag tag)) h =
    (h.0.1, subst AreSpaceless (sym (tags_said tag.words.items)) (all_lack IsTagWord tag_word_text (λ word said. said) tag.words.items h.1))
counted (the_command.Job (job.Forget forget)) h = (
  (h.0.0.1, subst AreSpaceless (sym (rules_said forget.rules.items)) (all_lack IsRule rule_text (λ r said. said) forget.rules.items h.0.1)),
  rules_count forget.rules.items,
)
counted (the_command.Job (job.Rewrite rewrite)) h = ((h.0.1, flagged_lack rewrite.forget rewrite.patterns.items h.1), h.2)
counted (the_command.Job job.Repair) h = tt
counted (the_command.Job job.Mark) h = tt
counted (the_command.Job (job.Sweep None)) h = tt
counted (the_command.Job (job.Sweep (Some wait))) h = h
counted (the_command.RawFile (raw_file.Add kind bytes)) h = h
counted (the_command.RawFile (raw_file.Drop kind target)) h = h
counted (the_command.Revision (revision.Undo n)) h = h
counted (the_command.Revision (revision.Redo n)) h = h
counted (the_command.Revision (revision.Empty n)) h = h
counted (the_command.Cascade n) h = h
counted (the_command.Question question.List) h = tt
counted (the_command.Question question.Count) h = tt
counted (the_command.Question question.History) h = tt
counted (the_command.Question (question.Same name)) h = tt
counted (the_command.Question (question.Restore target)) h = h
counted (the_command.Question question.Audit) h = tt
counted (the_command.Question question.Totals) h = tt
counted (the_command.Note name) h = tt
counted (the_command.Arm name) h = tt

pub one_command : (line : List ℕ) → HasOneCommand line
one_command line a b h k =
    said_told (command_said a).verb (command_said b).verb (command_said a).values (command_said b).values (counted a h.0) (counted b k.0)
    (printed a ∙ h.1 ∙ sym k.1 ∙ sym (printed b))
