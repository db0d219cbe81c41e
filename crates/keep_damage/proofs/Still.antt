-- What changes make of one file: they leave it as it is, or leave the same there whatever was there.
use Rattle.std.proofs.Common.{◌≡◌, ℕ, Bool, true, false, cond, ◌&&◌, ◌⊎◌, inl, inr, List, [], ◌∷◌, ◌++◌, map, Option, Some, None, is_some, is_none, refl, sym, ap, ◌∙◌}
use Rattle.std.specs.FinMap as finite
use Rattle.std.specs.List.{list_all}
use Rattle.std.specs.Option.{option_map}
use Rattle.std.specs.Ordering.{eq_by_cmp}
use Rattle.std.proofs.lemmas.List.Folds.{list_all-append, list_all-map}
use Rattle.std.proofs.lemmas.Map.Views.{tells_apart}
use Rattle.keep_names.proofs.Orders.{name_exact, name_total}
use Rattle.keep_names.specs.Orders.{name_cmp}
use Rattle.keep_names.specs.declared.file_name.FileName.{FileName}
use Rattle.keep_repo.specs.Facet.{Stored}
use Rattle.keep_repo.specs.Repository.{Repository, held}
use Rattle.keep_repo.specs.declared.facet.Facet.TheVariants.{File}
use Rattle.keep_change.specs.Change.{asked, file_asked, is_as_asked, is_met, is_ready, mark_asked}
use Rattle.keep_change.specs.Fold.{Numbered, first_break, fold_of}
use Rattle.keep_change.specs.NamedBytes.{NamedBytes}
use Rattle.keep_change.specs.Result.{put_files, result_of, remove_files}
use Rattle.keep_change.specs.declared.change.Change.{Change}
use Rattle.keep_journal.specs.Journal.{Journal}
use Rattle.keep_journal.specs.Kept.{kept}
use Rattle.keep_reading.specs.Checks.{Files}
use Rattle.keep_damage.specs.Asked.{asked_live, filled, passed, stepped, with_placeholder, without}
use Rattle.keep_damage.specs.declared.half.Half.TheVariants.{Look, Write}

-- ---- one file under steps

abbrev Sure : (Files → Files) → FileName → Type 0
Sure step x = (v : Option (List ℕ)) × ((files : Files) → finite.get (step files) x ≡ v)

abbrev Still : (Files → Files) → FileName → Type 0
Still step x = (files : Files) → finite.get (step files) x ≡ finite.get files x

abbrev Either : (Files → Files) → FileName → Type 0
Either step x = Sure step x ⊎ Still step x

then_either : (s t : Files → Files) (x : FileName) → Either s x → Either t x → Either (λ files. t (s files)) x
then_either s t x first (inl sure) = inl (sure.0, λ files. sure.1 (s files))
then_either s t x (inl sure) (inr still) = inl (sure.0, λ files. still (s files) ∙ sure.1 files)
then_either s t x (inr quiet) (inr still) = inr (λ files. still (s files) ∙ quiet files)

put_either : (f : NamedBytes) (x : FileName) → Either (λ files. finite.insert files f.name f.bytes) x
put_either f x = by (eq_by_cmp name_cmp x f.name) refl
  where
    by : (b : Bool) → eq_by_cmp name_cmp x f.name ≡ b → Either (λ files. finite.insert files f.name f.bytes) x
    by true same = inl (Some f.bytes, λ files. finite.get-insert name_total files f.name f.bytes x ∙ ap (λ b. cond b (Some f.bytes) (finite.get files x)) same)
    by false other = inr (λ files. finite.get-insert name_total files f.name f.bytes x ∙ ap (λ b. cond b (Some f.bytes) (finite.get files x)) other)

take_either : (name x : FileName) → Either (λ files. finite.remove files name) x
take_either name x = by (eq_by_cmp name_cmp x name) refl
  where
    by : (b : Bool) → eq_by_cmp name_cmp x name ≡ b → Either (λ files. finite.remove files name) x
    by true same = inl (None, λ files. finite.get-remove name_total files name x ∙ ap (λ b. cond b None (finite.get files x)) same)
    by false other = inr (λ files. finite.get-remove name_total files name x ∙ ap (λ b. cond b None (finite.get files x)) other)

puts_either : (fs : List NamedBytes) (x : FileName) → Either (put_files fs) x
puts_either [] x = inr (λ files. refl)
puts_either (f ∷ fs) x = then_either (λ files. finite.insert files f.name f.bytes) (put_files fs) x (put_either f x) (puts_either fs x)

takes_either : (fs : List NamedBytes) (x : FileName) → Either (remove_files fs) x
takes_either [] x = inr (λ files. refl)
takes_either (f ∷ fs) x = then_either (λ files. finite.remove files f.name) (remove_files fs) x (take_either f.name x) (takes_either fs x)

step_either : (c : Change) (x : FileName) → Either (stepped Write c) x
step_either c x = then_either (put_files c.adds) (remove_files c.drops) x (puts_either c.adds x) (takes_either c.drops x)

-- ---- one file under all changes

-- each of the changes leaves the file as it is
abbrev AllStill : List Numbered → FileName → Type 0
AllStill [] x = Unit {0}
AllStill (n ∷ ns) x = Still (stepped Write n.change) x × AllStill ns x

passed_still : (ns : List Numbered) (x : FileName) → AllStill ns x → (files : Files) → finite.get (passed Write ns files) x ≡ finite.get files x
passed_still [] x still files = refl
passed_still (n ∷ ns) x still files = passed_still ns x still.1 (stepped Write n.change files) ∙ still.0 files

all_either : (ns : List Numbered) (x : FileName) → Sure (passed Write ns) x ⊎ AllStill ns x
all_either [] x = inr tt
all_either (n ∷ ns) x = by (all_either ns x) (step_either n.change x)
  where
    by : Sure (passed Write ns) x ⊎ AllStill ns x → Either (stepped Write n.change) x → Sure (passed Write (n ∷ ns)) x ⊎ AllStill (n ∷ ns) x
    by (inl sure) step = inl (sure.0, λ files. sure.1 (stepped Write n.change files))
    by (inr still) (inl sure) = inl (sure.0, λ files. passed_still ns x still (stepped Write n.change files) ∙ sure.1 files)
    by (inr still) (inr quiet) = inr (quiet, still)

fold_files : (ns : List Numbered) (r : Repository) → (fold_of ns r).files ≡ passed Write ns r.files
fold_files [] r = refl
fold_files (n ∷ ns) r = fold_files ns (result_of n.change r)

-- ---- what changes that are met look at

parts : (a b : Bool) → (a && b) ≡ true → (a ≡ true) × (b ≡ true)
parts true true h = (refl, refl)
parts true false h = cc h
parts false b h = cc h

-- under the name stands something, or nothing, as it is asked
abbrev AreAsked : Bool → Repository → List FileName → Type 0
AreAsked wanted r names = list_all (λ name. is_as_asked (held r) (file_asked wanted name)) names ≡ true

there : (o : Option (List ℕ)) → is_some (option_map Stored o) ≡ true → is_none o ≡ false
there None h = cc h
there (Some b) h = refl

gone : (o : Option (List ℕ)) → is_none (option_map Stored o) ≡ true → o ≡ None
gone None h = refl
gone (Some b) h = cc h

placeholder_at : (name : FileName) (r : Repository) (files : Files) (x : FileName) → is_some (held r (File name)) ≡ true → finite.get r.files x ≡ finite.get files x
    → finite.get (with_placeholder name files) x ≡ finite.get files x
placeholder_at name r files x asks same = by (eq_by_cmp name_cmp x name) refl (is_none (finite.get files name)) refl
  where
    by : (e : Bool) → eq_by_cmp name_cmp x name ≡ e → (b : Bool) → is_none (finite.get files name) ≡ b
        → finite.get (cond b (finite.insert files name []) files) x ≡ finite.get files x
    by e is false some = refl
    by true is true none =
        let same_name : x ≡ name = tells_apart name_exact x name is in
        let filled_there : is_none (finite.get files name) ≡ false =
        ap is_none (ap (finite.get files) (sym same_name) ∙ sym same ∙ ap (finite.get r.files) same_name) ∙ there (finite.get r.files name) asks in
        cc (filled_there, none)
    by false is true none = finite.get-insert name_total files name [] x ∙ ap (λ b. cond b (Some []) (finite.get files x)) is

filled_at : (names : List FileName) (r : Repository) (files : Files) (x : FileName) → AreAsked true r names → finite.get r.files x ≡ finite.get files x
    → finite.get (filled names files) x ≡ finite.get files x
filled_at [] r files x asks same = refl
filled_at (name ∷ names) r files x asks same =
    let both = parts (is_some (held r (File name))) (list_all (λ n. is_as_asked (held r) (file_asked true n)) names) asks in
    let here = placeholder_at name r files x both.0 same in
    filled_at names r (with_placeholder name files) x both.1 (same ∙ sym here) ∙ here

removed_at : (name : FileName) (r : Repository) (files : Files) (x : FileName) → is_none (held r (File name)) ≡ true → finite.get r.files x ≡ finite.get files x
    → finite.get (finite.remove files name) x ≡ finite.get files x
removed_at name r files x asks same = finite.get-remove name_total files name x ∙ by (eq_by_cmp name_cmp x name) refl
  where
    by : (e : Bool) → eq_by_cmp name_cmp x name ≡ e → cond e None (finite.get files x) ≡ finite.get files x
    by true is =
        let same_name : x ≡ name = tells_apart name_exact x name is in
        sym (sym same ∙ ap (finite.get r.files) same_name ∙ gone (finite.get r.files name) asks)
    by false is = refl

without_at : (names : List FileName) (r : Repository) (files : Files) (x : FileName) → AreAsked false r names → finite.get r.files x ≡ finite.get files x
    → finite.get (without names files) x ≡ finite.get files x
without_at [] r files x asks same = refl
without_at (name ∷ names) r files x asks same =
    let both = parts (is_none (held r (File name))) (list_all (λ n. is_as_asked (held r) (file_asked false n)) names) asks in
    let here = removed_at name r files x both.0 same in
    without_at names r (finite.remove files name) x both.1 (same ∙ sym here) ∙ here

-- a change that is met finds each file that it only looks at as it has to be
met_looks : (c : Change) (r : Repository) (files : Files) (x : FileName) → is_met (held r) c ≡ true → finite.get r.files x ≡ finite.get files x
    → finite.get (stepped Look c files) x ≡ finite.get files x
met_looks c r files x met same =
    let test = is_as_asked (held r) in
    let marks = map (mark_asked true) c.marked ++ map (mark_asked false) c.unmarked in
    let asks = (parts (is_ready (held r) c) (list_all test (asked c)) met).1 in
    let first = parts (list_all test (map (file_asked true) c.present)) (list_all test (map (file_asked false) c.absent ++ marks))
    (sym (list_all-append test (map (file_asked true) c.present) (map (file_asked false) c.absent ++ marks)) ∙ asks) in
    let second = parts (list_all test (map (file_asked false) c.absent)) (list_all test marks)
    (sym (list_all-append test (map (file_asked false) c.absent) marks) ∙ first.1) in
    let present : AreAsked true r c.present = sym (list_all-map test (file_asked true) c.present) ∙ first.0 in
    let absent : AreAsked false r c.absent = sym (list_all-map test (file_asked false) c.absent) ∙ second.0 in
    let here = filled_at c.present r files x present same in
    without_at c.absent r (filled c.present files) x absent (same ∙ sym here) ∙ here

unbroken_parts : (b : Bool) (k : ℕ) (o : Option ℕ) → cond b o (Some k) ≡ None → (b ≡ true) × (o ≡ None)
unbroken_parts true k o h = (refl, h)
unbroken_parts false k o h = cc h

all_look : (ns : List Numbered) (r : Repository) (files : Files) (x : FileName) → AllStill ns x → first_break ns r ≡ None → finite.get r.files x ≡ finite.get files x
    → finite.get (passed Look ns files) x ≡ finite.get files x
all_look [] r files x still unbroken same = refl
all_look (n ∷ ns) r files x still unbroken same =
    let both = unbroken_parts (is_met (held r) n.change) n.number (first_break ns (result_of n.change r)) unbroken in
    let here = met_looks n.change r files x both.0 same in
    all_look ns (result_of n.change r) (stepped Look n.change files) x still.1 both.1 (still.0 r.files ∙ same ∙ sym here) ∙ here

-- ---- a live file that is read is as asked

pub live_as_asked : (j : Journal) (o : Repository) (files : Files) (x : FileName) → first_break (kept j) o ≡ None
    → finite.get (fold_of (kept j) o).files x ≡ finite.get files x → finite.get (asked_live j files) x ≡ finite.get files x
live_as_asked j o files x unbroken reads = by (all_either (kept j) x)
  where
    folded : finite.get (passed Write (kept j) o.files) x ≡ finite.get files x
    folded = ap (λ (fs : Files). finite.get fs x) (sym (fold_files (kept j) o)) ∙ reads

    by : Sure (passed Write (kept j)) x ⊎ AllStill (kept j) x → finite.get (asked_live j files) x ≡ finite.get files x
    by (inl sure) = sure.1 (passed Look (kept j) files) ∙ sym (sure.1 o.files) ∙ folded
    by (inr still) =
        passed_still (kept j) x still (passed Look (kept j) files)
        ∙ all_look (kept j) o files x still unbroken (sym (passed_still (kept j) x still o.files) ∙ folded)
