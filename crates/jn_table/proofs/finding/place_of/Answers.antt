use Rattle.std.proofs.Common.{rules, ◌≡◌, Some, length, refl, slice_get, subst, sym}
use Rattle.std.specs.declared.cmp.Ordering.TheVariants.{Equal}
use Rattle.std.specs.Cmp.Lexicographic.{slice_cmp}
use Rattle.std.specs.Ordering.{nat_cmp}
use Rattle.std.proofs.lemmas.Fn.{always_returns_same}
use Rattle.std.proofs.lemmas.Option.{slice_get_read}
use Rattle.jn_table.specs.declared.finding.Located.{Located}
use Rattle.jn_table.specs.Places.{name_numbers}
use Rattle.jn_table.proofs.Located.{found, missing}
use Rattle.jn_table.proofs.finding.place_of.Goals as goal

pub returns-in-Ok : goal.returns-in-Ok
returns-in-Ok c = record {
  some = λ known are.
      let places = c.args.places.now in
      let q = c.args.path.now in
      let x = c.index-places-at.result in
      let ord = λ (y : Located). slice_cmp nat_cmp (name_numbers y.names) (name_numbers q.names) in
      let same = c.in-Ok.ensures.position ord (always_returns_same _ _ _ (λ a r g called. search rules)) in
      let at = slice_get_read places (length places) c.in-Ok.at x refl c.in-Ok.ensures.bound c.index-places-at.is in
      subst (λ (y : Located). slice_get known y.id.0 ≡ Some q) c.index-places-at.is
      (found known places q c.in-Ok.at x are at
      (subst (λ (y : Located). ord y ≡ Equal) (sym c.index-places-at.is) (same x)));
  none = tt;
}

pub returns-in-Err : goal.returns-in-Err
returns-in-Err c = record {
  some = tt;
  none = λ known are k is.
      let q = c.args.path.now in
      let ord = λ (y : Located). slice_cmp nat_cmp (name_numbers y.names) (name_numbers q.names) in
      missing known c.args.places.now q c.in-Err.field-0 are
      (c.in-Err.ensures.position ord (always_returns_same _ _ _ (λ a r g called. search rules))) k is;
}
