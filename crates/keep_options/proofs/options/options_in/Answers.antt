use Rattle.std.proofs.Common.{◌≡◌, ◌∙◌, Bor, ℕ, ℤ, List, Option, Some, None, Result, Err, ap, ap₂, arith, codes, of_z, refl, rules, sym, to_z, w64}
use Rattle.std.specs.Option.{option_map}
use Rattle.std.specs.Prelude.{ok_or, option_and_then, unwrap_or}
use Rattle.clap.proofs.WalkLemmas.{first_value-rows}
use Rattle.clap.specs.Words.{Row, first_of, found_of, rows_of}
use Rattle.keep_options.specs.Option.{OptionsData, folder_in, moment_or_first, number_or}
use Rattle.keep_options.specs.declared.options.BadOptions.{BadOptions}
use Rattle.keep_options.specs.declared.options.BadOptions.TheVariants.{Refused}
use Rattle.keep_options.proofs.NumberLemmas.{number-range}
use Rattle.keep_options.proofs.OptionLemmas.{ends-there, goes-on}
use Rattle.keep_options.proofs.options.options_in.Goals as goal

abbrev with_crew : List Row → ℕ → ℤ → ℕ → Option (List ℕ) → ℕ → Option OptionsData
with_crew rows cut now drops folder crew = Some (record {
  cut = cut;
  now = now;
  time = unwrap_or (first_of (codes "now") rows) (codes "1970-01-01T00:00:00Z");
  host = unwrap_or (first_of (codes "host") rows) (codes "web");
  tagged = unwrap_or (first_of (codes "tagged") rows) (codes "keep");
  drops = drops;
  folder = folder;
  crew = crew;
})

abbrev with_folder : List Row → ℕ → ℤ → ℕ → Option (List ℕ) → Option OptionsData
with_folder rows cut now drops folder = option_and_then (with_crew rows cut now drops folder) (number_or 0 8 0 (first_of (codes "crew") rows))

abbrev with_drops : List Row → ℕ → ℤ → ℕ → Option OptionsData
with_drops rows cut now drops = option_and_then (with_folder rows cut now drops) (folder_in (first_of (codes "folder") rows))

abbrev with_now : List Row → ℕ → ℤ → Option OptionsData
with_now rows cut now = option_and_then (with_drops rows cut now) (number_or 0 1048576 1 (first_of (codes "drops") rows))

abbrev with_cut : List Row → ℕ → Option OptionsData
with_cut rows cut = option_and_then (with_now rows cut) (moment_or_first (first_of (codes "now") rows))

abbrev cut_of : Option (List ℕ) → Option ℕ
cut_of word = number_or 1 8388608 1048576 word

abbrev cut_in : Option (List ℕ) → Result ℕ BadOptions
cut_in word = ok_or (cut_of word) Refused

abbrev moment_read : Option (List ℕ) → Result ℤ BadOptions
moment_read word = ok_or (moment_or_first word) Refused

abbrev drops_of : Option (List ℕ) → Option ℕ
drops_of word = number_or 0 1048576 1 word

abbrev folder_read : Option (Option (List ℕ)) → Result (Option (List ℕ)) BadOptions
folder_read found = ok_or found Refused

abbrev drops_in : Option (List ℕ) → Result ℕ BadOptions
drops_in word = ok_or (drops_of word) Refused

pub returns-in_err-cut-clause-said : goal.returns-in_err-cut-clause-said
returns-in_err-cut-clause-said c =
    let rows = rows_of (found_of c.args.matches.now) in
    let word = c.get_str.ensures ∙ first_value-rows (found_of c.args.matches.now) (codes "cut") in
    let read = c.in_err-cut.ensures ∙ ap cut_in word in
    ends-there (cut_of (first_of (codes "cut") rows)) (with_cut rows) c.in_err-cut.field-0.0
    c.from_residual.result read c.from_residual.ensures.1

pub returns-in_err-now-clause-said : goal.returns-in_err-now-clause-said
returns-in_err-now-clause-said c =
    let rows = rows_of (found_of c.args.matches.now) in
    let word = c.get_str.ensures ∙ first_value-rows (found_of c.args.matches.now) (codes "cut") in
    let read = c.in_ok-cut.ensures ∙ ap cut_in word in
    let given = goes-on (cut_of (first_of (codes "cut") rows)) (with_cut rows) c.in_ok-cut.cut read in
    let then = c.get_str-2.ensures ∙ first_value-rows (found_of c.args.matches.now) (codes "now") in
    rw given (ends-there (moment_or_first (first_of (codes "now") rows)) (with_now rows c.in_ok-cut.cut) c.in_err-now.field-0.0
    c.from_residual-in_err-now.result (c.in_err-now.ensures ∙ ap moment_read then) c.from_residual-in_err-now.ensures.1)

pub returns-in_err-drops-clause-said : goal.returns-in_err-drops-clause-said
returns-in_err-drops-clause-said c =
    let rows = rows_of (found_of c.args.matches.now) in
    let word = c.get_str.ensures ∙ first_value-rows (found_of c.args.matches.now) (codes "cut") in
    let given = goes-on (cut_of (first_of (codes "cut") rows)) (with_cut rows) c.in_ok-cut.cut (c.in_ok-cut.ensures ∙ ap cut_in word) in
    let then = c.get_str-2.ensures ∙ first_value-rows (found_of c.args.matches.now) (codes "now") in
    let moment = goes-on (moment_or_first (first_of (codes "now") rows)) (with_now rows c.in_ok-cut.cut) c.in_ok-now.now (c.in_ok-now.ensures ∙ ap moment_read then) in
    let last = c.get_str-3.ensures ∙ first_value-rows (found_of c.args.matches.now) (codes "drops") in
    rw (given ∙ moment) (ends-there (drops_of (first_of (codes "drops") rows)) (with_drops rows c.in_ok-cut.cut c.in_ok-now.now) c.in_err-drops.field-0.0
    c.from_residual-in_err-drops.result (c.in_err-drops.ensures ∙ ap drops_in last) c.from_residual-in_err-drops.ensures.1)

pub returns-in_err-folder-clause-said : goal.returns-in_err-folder-clause-said
returns-in_err-folder-clause-said c =
    let rows = rows_of (found_of c.args.matches.now) in
    let word = c.get_str.ensures ∙ first_value-rows (found_of c.args.matches.now) (codes "cut") in
    let given = goes-on (cut_of (first_of (codes "cut") rows)) (with_cut rows) c.in_ok-cut.cut (c.in_ok-cut.ensures ∙ ap cut_in word) in
    let then = c.get_str-2.ensures ∙ first_value-rows (found_of c.args.matches.now) (codes "now") in
    let moment = goes-on (moment_or_first (first_of (codes "now") rows)) (with_now rows c.in_ok-cut.cut) c.in_ok-now.now (c.in_ok-now.ensures ∙ ap moment_read then) in
    let last = c.get_str-3.ensures ∙ first_value-rows (found_of c.args.matches.now) (codes "drops") in
    let drops = goes-on (drops_of (first_of (codes "drops") rows)) (with_drops rows c.in_ok-cut.cut c.in_ok-now.now) c.in_ok-drops.drops (c.in_ok-drops.ensures ∙ ap drops_in last) in
    let named = c.get_str-4.ensures ∙ first_value-rows (found_of c.args.matches.now) (codes "folder") in
    let none : folder_in (first_of (codes "folder") rows) ≡ None = ap folder_in (sym named) ∙ c.in_err-folder.ensures.0 in
    let read = ap Err c.in_err-folder.ensures.1 ∙ ap folder_read (sym none) in
    rw (given ∙ moment ∙ drops) (ends-there (folder_in (first_of (codes "folder") rows)) (with_folder rows c.in_ok-cut.cut c.in_ok-now.now c.in_ok-drops.drops) c.in_err-folder.field-0.0
    c.from_residual-in_err-folder.result read c.from_residual-in_err-folder.ensures.1)

abbrev crew_of : Option (List ℕ) → Option ℕ
crew_of word = number_or 0 8 0 word

abbrev crew_in : Option (List ℕ) → Result ℕ BadOptions
crew_in word = ok_or (crew_of word) Refused

pub returns-in_err-crew-clause-said : goal.returns-in_err-crew-clause-said
returns-in_err-crew-clause-said c =
    let rows = rows_of (found_of c.args.matches.now) in
    let word = c.get_str.ensures ∙ first_value-rows (found_of c.args.matches.now) (codes "cut") in
    let given = goes-on (cut_of (first_of (codes "cut") rows)) (with_cut rows) c.in_ok-cut.cut (c.in_ok-cut.ensures ∙ ap cut_in word) in
    let then = c.get_str-2.ensures ∙ first_value-rows (found_of c.args.matches.now) (codes "now") in
    let moment = goes-on (moment_or_first (first_of (codes "now") rows)) (with_now rows c.in_ok-cut.cut) c.in_ok-now.now (c.in_ok-now.ensures ∙ ap moment_read then) in
    let last = c.get_str-3.ensures ∙ first_value-rows (found_of c.args.matches.now) (codes "drops") in
    let drops = goes-on (drops_of (first_of (codes "drops") rows)) (with_drops rows c.in_ok-cut.cut c.in_ok-now.now) c.in_ok-drops.drops (c.in_ok-drops.ensures ∙ ap drops_in last) in
    let named = c.get_str-4.ensures ∙ first_value-rows (found_of c.args.matches.now) (codes "folder") in
    let named_folder = option_map (λ (text : Bor (List ℕ)). text.now) c.in_ok-folder.folder in
    let found : folder_in (first_of (codes "folder") rows) ≡ Some named_folder = ap folder_in (sym named) ∙ c.in_ok-folder.ensures in
    let folder = ap (option_and_then (with_folder rows c.in_ok-cut.cut c.in_ok-now.now c.in_ok-drops.drops)) found in
    let size = c.get_str-5.ensures ∙ first_value-rows (found_of c.args.matches.now) (codes "crew") in
    rw (given ∙ moment ∙ drops ∙ folder) (ends-there (crew_of (first_of (codes "crew") rows)) (with_crew rows c.in_ok-cut.cut c.in_ok-now.now c.in_ok-drops.drops named_folder) c.in_err-crew.field-0.0
    c.from_residual-in_err-crew.result (c.in_err-crew.ensures ∙ ap crew_in size) c.from_residual-in_err-crew.ensures.1)

-- a text option is what the matches give, or what is usual
text_or : (found : Option (Bor (List ℕ))) (usual read : Bor (List ℕ)) (given : Option (List ℕ)) → option_map (λ text. text.now) found ≡ given → read ≡ unwrap_or found usual → read.now ≡ unwrap_or given usual.now
text_or None usual read given e h = rw (← e, h) refl
text_or (Some text) usual read given e h = rw (← e, h) refl

pub returns-clause-said : goal.returns-clause-said
returns-clause-said c =
    let rows = rows_of (found_of c.args.matches.now) in
    let word = c.get_str.ensures ∙ first_value-rows (found_of c.args.matches.now) (codes "cut") in
    let given = goes-on (cut_of (first_of (codes "cut") rows)) (with_cut rows) c.in_ok-cut.cut (c.in_ok-cut.ensures ∙ ap cut_in word) in
    let then = c.get_str-2.ensures ∙ first_value-rows (found_of c.args.matches.now) (codes "now") in
    let moment = goes-on (moment_or_first (first_of (codes "now") rows)) (with_now rows c.in_ok-cut.cut) c.in_ok-now.now (c.in_ok-now.ensures ∙ ap moment_read then) in
    let last = c.get_str-3.ensures ∙ first_value-rows (found_of c.args.matches.now) (codes "drops") in
    let drops = goes-on (drops_of (first_of (codes "drops") rows)) (with_drops rows c.in_ok-cut.cut c.in_ok-now.now) c.in_ok-drops.drops (c.in_ok-drops.ensures ∙ ap drops_in last) in
    let named = c.get_str-4.ensures ∙ first_value-rows (found_of c.args.matches.now) (codes "folder") in
    let named_folder = option_map (λ (text : Bor (List ℕ)). text.now) c.in_ok-folder.folder in
    let found : folder_in (first_of (codes "folder") rows) ≡ Some named_folder = ap folder_in (sym named) ∙ c.in_ok-folder.ensures in
    let folder = ap (option_and_then (with_folder rows c.in_ok-cut.cut c.in_ok-now.now c.in_ok-drops.drops)) found in
    let size = c.get_str-5.ensures ∙ first_value-rows (found_of c.args.matches.now) (codes "crew") in
    let crew = goes-on (crew_of (first_of (codes "crew") rows)) (with_crew rows c.in_ok-cut.cut c.in_ok-now.now c.in_ok-drops.drops named_folder) c.in_ok-crew.crew (c.in_ok-crew.ensures ∙ ap crew_in size) in
    let time = text_or c.get_str-6.result _ c.unwrap_or-time.result (first_of (codes "now") rows) (c.get_str-6.ensures ∙ first_value-rows (found_of c.args.matches.now) (codes "now")) c.unwrap_or-time.ensures in
    let host = text_or c.get_str-7.result _ c.unwrap_or-host.result (first_of (codes "host") rows) (c.get_str-7.ensures ∙ first_value-rows (found_of c.args.matches.now) (codes "host")) c.unwrap_or-host.ensures in
    let tagged = text_or c.get_str-8.result _ c.unwrap_or-tagged.result (first_of (codes "tagged") rows) (c.get_str-8.ensures ∙ first_value-rows (found_of c.args.matches.now) (codes "tagged")) c.unwrap_or-tagged.ensures in
    let kept : to_z w64 (of_z w64 c.in_ok-now.now) ≡ c.in_ok-now.now = search rules in
    let usual_time = unwrap_or (first_of (codes "now") rows) (codes "1970-01-01T00:00:00Z") in
    let texts = ap₂ (λ (h t : List ℕ). Some (record { cut = c.in_ok-cut.cut; now = c.in_ok-now.now; time = usual_time; host = h; tagged = t; drops = c.in_ok-drops.drops; folder = named_folder; crew = c.in_ok-crew.crew })) (sym host) (sym tagged) in
    given ∙ moment ∙ drops ∙ folder ∙ crew ∙ texts
    ∙ ap (λ (t : List ℕ). Some (record { cut = c.in_ok-cut.cut; now = c.in_ok-now.now; time = t; host = c.unwrap_or-host.result.now; tagged = c.unwrap_or-tagged.result.now; drops = c.in_ok-drops.drops; folder = named_folder; crew = c.in_ok-crew.crew })) (sym time)
    ∙ ap (λ (now : ℤ). Some (record { cut = c.in_ok-cut.cut; now = now; time = c.unwrap_or-time.result.now; host = c.unwrap_or-host.result.now; tagged = c.unwrap_or-tagged.result.now; drops = c.in_ok-drops.drops; folder = named_folder; crew = c.in_ok-crew.crew })) (sym kept)

pub returns-clause-range : goal.returns-clause-range
returns-clause-range c =
    number-range 1 8388608 1048576 c.in_ok-cut.cut (option_map (λ text. text.now) c.get_str.result) (omega arith) (omega arith) c.in_ok-cut.ensures
