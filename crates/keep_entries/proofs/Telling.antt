-- What bytes spell, and that they spell nothing else.
use Rattle.std.proofs.Common.{◌≡◌, ◌≢◌, ℕ, List, None, Some, sym, ap, subst, ◌∙◌}
use Rattle.keep_journal.specs.declared.event.Event.{Event}
use Rattle.keep_entries.specs.Entry.{Fits, IsEntry, Spells, SaysNothing, event_said}
use Rattle.keep_entries.specs.Laws.{FormsDiffer, OneEventIsSpelled}
use Rattle.keep_entries.specs.Shape.{read_of}
use Rattle.keep_entries.specs.Spelling.{text_in}
use Rattle.keep_entries.specs.declared.form.Form.{Form}
use Rattle.keep_entries.specs.declared.form.Form.TheVariants.{Packs, Moments}
use Rattle.keep_entries.proofs.RoundTrip.{read_back}

pub pair_same : {A B : Type 0} (p q : A × B) → Some p ≡ Some q → (p.0 ≡ q.0) × (p.1 ≡ q.1)
pair_same {A} {B} p q e =
    let same : p ≡ q = cc in
    (ap (λ (x : A × B). x.0) same, ap (λ (x : A × B). x.1) same)

-- what is spelled is read
spelled_reads : (bytes : List ℕ) (event : Event) → Fits event → (s : Spells bytes event) → read_of bytes ≡ Some (s.0, event)
spelled_reads bytes event fits s =
    ap read_of s.1 ∙ read_back s.0 event fits ∙ ap (λ (e : Event). Some (s.0, e)) s.2

pub one_event : OneEventIsSpelled
one_event bytes a b fits_a fits_b spells_a spells_b =
    let first = spelled_reads bytes a fits_a spells_a in
    let second = spelled_reads bytes b fits_b spells_b in
    (pair_same (spells_a.0, a) (spells_b.0, b) (sym first ∙ second)).1

pub forms_differ : FormsDiffer
forms_differ a b fits_a fits_b same =
    let both = sym (read_back Packs a fits_a) ∙ ap read_of same ∙ read_back Moments b fits_b in
    let one : Packs ≡ Moments = (pair_same (Packs, event_said Packs a) (Moments, event_said Moments b) both).0 in
    cc

-- bytes of which nothing is read spell nothing
pub nothing_read : (k : ℕ) (bytes : List ℕ) → read_of bytes ≡ None → SaysNothing k bytes
nothing_read k bytes none event is s =
    let found = sym none ∙ spelled_reads bytes event is.fits s in
    cc

-- and where something is read, they spell nothing else
pub nothing_else : (k : ℕ) (bytes : List ℕ) (form : Form) (event : Event) → read_of bytes ≡ Some (form, event)
    → (IsEntry (record { at = k; event = event }) → bytes ≢ text_in form event) → SaysNothing k bytes
nothing_else k bytes form event found apart other is s =
    let same = pair_same (s.0, other) (form, event) (sym (spelled_reads bytes other is.fits s) ∙ found) in
    let entry = subst (λ (e : Event). IsEntry (record { at = k; event = e })) same.1 is in
    apart entry (s.1 ∙ ap (λ (f : Form). text_in f other) same.0 ∙ ap (text_in form) same.1)
