use Rattle.std.proofs.Common.{◌≡◌, All, List, take, take_all, get_or, refl, subst, arith}
use Rattle.std.proofs.lemmas.Bool.{false≢true}
use Rattle.std.proofs.lemmas.List.Elements.{Contains-get_or}
use Rattle.jn_intern.specs.declared.scope.Bind.{Bind}
use Rattle.rows_classes.proofs.FitTests.{binds_of, binds_not}
use Rattle.rows_classes.proofs.fits.has_path.Goals as goal

abbrev nothing : Bind
nothing = record { path = 0; ty = record { 0 = 0 } }

pub returns-then-b-path : goal.returns-then-b-path
returns-then-b-path c pool =
    let bs : List Bind = c.args.binds.now in
    let i = c.loop-b.b-index in
    (λ _. binds_of pool bs (get_or bs i nothing) c.args.path (Contains-get_or bs i nothing c.loop-b-test.true) c.if-b-path.true, λ _. refl)

pub returns : goal.returns
returns c pool =
    let bs : List Bind = c.args.binds.now in
    let all : take c.loop-b.b-index bs ≡ bs = take_all c.loop-b.b-index bs (omega (arith, c.loop-b-test.false)) in (
      λ h. absurd (false≢true h),
      λ h. absurd (binds_not pool bs c.args.path (subst (All (λ (b : Bind). b.path ≡ c.args.path → ⊥)) all c.loop-b.invariant) h),
    )
