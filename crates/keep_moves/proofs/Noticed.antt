-- The notices of a history tell which of its entries are silenced.
use Rattle.std.proofs.Common.{◌≡◌, ℕ, Bool, true, false, ◌&&◌, not, cond, List, [], ◌∷◌, map, refl, ap, ap₂}
use Rattle.keep_journal.specs.Event.{notice_of, what_by}
use Rattle.keep_journal.specs.declared.event.Entry as the_entry
use Rattle.keep_journal.specs.declared.event.EventKind.{EventKind}
use Rattle.keep_journal.specs.declared.event.EventKind.TheVariants.{Commit, Undo, Redo, Empty}
use Rattle.keep_shelf.specs.declared.key.Key.TheVariants.{Entry}
use Rattle.keep_moves.specs.Lists.{entry_keys, is_silenced}
use Rattle.keep_moves.specs.Notices.{silenced_keys, notice_lasts, kind_lasts}
use Rattle.keep_journal.specs.Lasting.{lasts_by}
use Rattle.std.specs.List.{filter}

tells_alike : (f n : ℕ) (kind : EventKind) → kind_lasts f n (what_by kind) ≡ lasts_by f n kind
tells_alike f n (Commit c) = refl
tells_alike f n Undo = refl
tells_alike f n Redo = refl
tells_alike f n (Empty marks) = refl

pub silenced_alike : (f n : ℕ) (es : List the_entry.Entry) → silenced_keys f n (map notice_of es) ≡ entry_keys (filter (λ e. is_silenced f n e.event) es)
silenced_alike f n [] = refl
silenced_alike f n (e ∷ es) =
    let same : (notice_lasts f (notice_of e) && not (notice_lasts n (notice_of e))) ≡ is_silenced f n e.event =
    ap₂ (λ a b. a && not b) (tells_alike f e.event.number e.event.kind) (tells_alike n e.event.number e.event.kind) in
    one_more _ _ same (silenced_alike f n es)
  where
    one_more : (a b : Bool) → a ≡ b → silenced_keys f n (map notice_of es) ≡ entry_keys (filter (λ x. is_silenced f n x.event) es)
        → map (λ notice. Entry notice.at) (cond a (notice_of e ∷ filter (λ notice. notice_lasts f notice && not (notice_lasts n notice)) (map notice_of es)) (filter (λ notice. notice_lasts f notice && not (notice_lasts n notice)) (map notice_of es)))
        ≡ entry_keys (cond b (e ∷ filter (λ x. is_silenced f n x.event) es) (filter (λ x. is_silenced f n x.event) es))
    one_more true true _ rest = ap (λ ks. Entry e.at ∷ ks) rest
    one_more true false is rest = cc is
    one_more false true is rest = cc is
    one_more false false _ rest = rest
