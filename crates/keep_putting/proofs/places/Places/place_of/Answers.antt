use Rattle.std.proofs.Common.{◌≡◌, ◌∙◌, IsTrue, ap, sym, subst}
use Rattle.keep_files.specs.Path.{LiesRightIn}
use Rattle.keep_tree.specs.Names.{is_name}
use Rattle.keep_putting.specs.Made.{folders_in}
use Rattle.keep_putting.proofs.places.Places.place_of.Goals as goal

pub returns-in_default-home_of-clause-homeless : goal.returns-in_default-home_of-clause-homeless
returns-in_default-home_of-clause-homeless c = λ _ home lies.
    let here = subst (λ path. LiesRightIn path home) (sym c.as_str-2.ensures.value) lies in
    cc (c.in_default-home_of.ensures.only home here)

pub returns-in_default-find-clause-homeless : goal.returns-in_default-find-clause-homeless
returns-in_default-find-clause-homeless c = λ _ home lies.
    let here = subst (λ path. LiesRightIn path home) (sym c.as_str-2.ensures.value) lies in
    let same : c.in-Some-home_of.home.now ≡ home = cc (c.in-Some-home_of.ensures.only home here) in
    ap (folders_in c.args.self.now) (sym same) ∙ sym c.in_default-find.ensures

pub returns-clause-placed : goal.returns-clause-placed
returns-clause-placed c =
    let held = c.in-Some-home_of.ensures.home in record {
      home = c.in-Some-home_of.home.now;
      folder = c.in-Some-find.folder.now;
      name = c.in-Some.name;
      held = subst (λ path. LiesRightIn path c.in-Some-home_of.home.now) c.as_str-2.ensures.value held;
      made = sym c.in-Some-find.ensures;
      said = c.in-Some.is;
      named = subst (λ text. IsTrue (is_name text)) c.as_str.ensures.value (sym c.is_name.ensures ∙ c.if-not-is_name.false);
      leads = c.in_ok-format.ensures.ok;
    }
