-- What is kept of a repository follows each half of a change.
use Rattle.std.proofs.Common.{◌≡◌, true, List, None, Option, Some, IfSome, refl, sym, subst, ◌∙◌}
use Rattle.keep_change.proofs.Halves.{abandoned}
use Rattle.keep_change.proofs.Records.{WritesOnce}
use Rattle.keep_change.specs.Change.{is_ready, written}
use Rattle.keep_change.specs.Halves.{IsBegun, begun_of, completed_of}
use Rattle.keep_change.specs.NamedBytes.{NamedBytes}
use Rattle.keep_change.specs.Result.{put_marks, reverse_of, remove_marks}
use Rattle.keep_change.specs.declared.change.Change.{Change}
use Rattle.keep_repo.specs.Repository.{Repository, held}
use Rattle.keep_catalog.proofs.Coming.{re_marked}
use Rattle.keep_catalog.proofs.Following.{follows, put_there}
use Rattle.keep_catalog.specs.Kept.{AreNew, AreThere, IsKept, with_files, without_files}
use Rattle.keep_catalog.specs.declared.tables.Tables.{Tables}

-- the tables, where they are kept, say what the files of the repository say
abbrev AreKept : Option Tables → Repository → Type 0
AreKept tables r = IfSome tables (IsKept r)

-- after the first half
pub came_kept : (c : Change) (r after : Repository) (tables result : Option Tables) (files : List NamedBytes) → files ≡ c.adds → after ≡ begun_of c r → WritesOnce (written c) → is_ready (held r) c ≡ true → AreKept tables r → ((s : Repository) → AreNew files s.files → AreKept tables s → AreKept result (with_files files s)) → AreKept result after
came_kept c r after tables result files are is once ready kept came =
    let F : List NamedBytes → Type 0 = λ fs. AreNew fs r.files → AreKept tables r → AreKept result (with_files fs r) in
    subst (AreKept result) (sym is) (marked result (subst F are (came r) (follows c r once ready).0 kept)) where
      marked : (t : Option Tables) → AreKept t (with_files c.adds r) → AreKept t (begun_of c r)
      marked None h = tt
      marked (Some t) h = re_marked (with_files c.adds r) t (put_marks c.sets r.marks) h

-- after what goes went
pub went_kept : (c : Change) (r after : Repository) (tables result : Option Tables) (files : List NamedBytes) → files ≡ c.drops → after ≡ completed_of c r → AreThere c.drops r.files → AreKept tables r → ((s : Repository) → AreThere files s.files → AreKept tables s → AreKept result (without_files files s)) → AreKept result after
went_kept c r after tables result files are is there kept went =
    let F : List NamedBytes → Type 0 = λ fs. AreThere fs r.files → AreKept tables r → AreKept result (without_files fs r) in
    subst (AreKept result) (sym is) (marked result (subst F are (went r) there kept)) where
      marked : (t : Option Tables) → AreKept t (without_files c.drops r) → AreKept t (completed_of c r)
      marked None h = tt
      marked (Some t) h = re_marked (without_files c.drops r) t (remove_marks c.clears r.marks) h

module _ (c : Change) (r : Repository) (once : WritesOnce (written c)) (begun : IsBegun c r) where
  -- between the halves the files that are to go are there
  pub going_there : AreThere c.drops r.files
  going_there = subst (λ (s : Repository). AreThere c.drops s.files) (sym begun.begun) (follows c begun.before once begun.ready).1

  -- and so are those that came
  pub come_there : AreThere c.adds r.files
  come_there = subst (λ (s : Repository). AreThere c.adds s.files) (sym begun.begun) (put_there c begun.before once)

  -- what was there before is what is left without those
  pub withdrawn : (after : Repository) → ((before : Repository) → is_ready (held before) c ≡ true → r ≡ begun_of c before → after ≡ before) → after ≡ completed_of (reverse_of c) r
  withdrawn after back =
      back begun.before begun.ready begun.begun
      ∙ sym (abandoned c begun.before r (completed_of (reverse_of c) r) begun.ready begun.begun refl)
