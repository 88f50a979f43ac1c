use Rattle.std.proofs.Common.{◌≡◌, ◌<◌, ◌∙◌, length, take, arith, sym}
use Rattle.std.proofs.lemmas.List.{length-take-le}
use Rattle.std.proofs.lemmas.Result.{IfOk-weaker}
use Rattle.jn_intern.specs.declared.scope.Bind.{Bind}
use Rattle.jn_normal.proofs.Turning.{rooted, no_bind, types_of, step_small, step_anchored, step_same, step_ends, none_there, some_there}
use Rattle.jn_base.specs.Atoms.{atoms_in}
use Rattle.jn_sem.specs.Normal.{by_first}
use Rattle.jn_normal.proofs.rewriting.+normal_from.Goals as goal

-- what is read where there is no bind
abbrev nothing : Bind
nothing = record { path = 0; ty = record { 0 = 0 } }

pub rewrite-requires : goal.rewrite-requires
rewrite-requires t c = record {
  small = step_small c.args.pool.now c.args.binds.now c.args.n c.in-Some.i c.in-Up.path c.in-Up.k c.args.x nothing c.show.result.now c.requires.fits c.requires.within
      (sym c.anchor.ensures ∙ c.in-Up.is) c.in-Some.ensures.some c.show.ensures c.requires.anchored;
}

pub normal_from-requires : goal.normal_from-requires
normal_from-requires t c =
    let l : c.in-Some.i < length (take c.args.n c.args.binds.now) = c.in-Some.ensures.within in
    let n : length (take c.args.n c.args.binds.now) ≡ c.args.n = length-take-le c.args.n c.args.binds.now c.requires.within in (
      omega (arith, l, n, c.decreases),
      (
        c.requires.known,
        (
          c.requires.fits,
          (
            omega (arith, l, n, c.requires.within),
            step_anchored c.args.pool.now c.args.binds.now c.args.n c.in-Some.i c.in-Up.path c.in-Up.k c.args.x nothing c.show.result.now c.requires.fits c.requires.within
                (sym c.anchor.ensures ∙ c.in-Up.is) c.in-Some.ensures.some c.show.ensures c.requires.anchored c.in-Some-2.y
                (some_there (λ y. y ≡ by_first c.in-Up.k c.args.x (atoms_in c.show.result.now)) c.in_ok-rewrite-in-Some.field-0 c.in-Some-2.y c.in-Some-2.is c.in_ok-rewrite-in-Some.ensures.some),
          ),
        ),
      ),
    )

pub returns-in-Root : goal.returns-in-Root
returns-in-Root t c = sym (rooted (types_of c.args.pool.now (take c.args.n c.args.binds.now)) c.args.x (sym c.anchor.ensures ∙ c.in-Root.is))

pub returns-in-None : goal.returns-in-None
returns-in-None t c =
    sym (no_bind c.args.pool.now (take c.args.n c.args.binds.now) c.args.x c.in-Up.path c.in-Up.k (sym c.anchor.ensures ∙ c.in-Up.is) c.in-None.ensures.none)

pub returns-in-None-2 : goal.returns-in-None-2
returns-in-None-2 t c =
    sym (step_ends c.args.pool.now c.args.binds.now c.args.n c.in-Some.i c.in-Up.path c.in-Up.k c.args.x nothing c.show.result.now c.requires.fits c.requires.within
    (sym c.anchor.ensures ∙ c.in-Up.is) c.in-Some.ensures.some c.show.ensures
    (none_there c.in_ok-rewrite-in-Some.field-0 c.in-None-2.is c.in_ok-rewrite-in-Some.ensures.none))

pub returns-in-Some-2 : goal.returns-in-Some-2
returns-in-Some-2 t c =
    IfOk-weaker c.normal_from.result _ _
    (λ y h. h ∙ sym (step_same c.args.pool.now c.args.binds.now c.args.n c.in-Some.i c.in-Up.path c.in-Up.k c.args.x nothing c.show.result.now c.requires.fits c.requires.within
    (sym c.anchor.ensures ∙ c.in-Up.is) c.in-Some.ensures.some c.show.ensures c.in-Some-2.y
    (some_there (λ y. y ≡ by_first c.in-Up.k c.args.x (atoms_in c.show.result.now)) c.in_ok-rewrite-in-Some.field-0 c.in-Some-2.y c.in-Some-2.is c.in_ok-rewrite-in-Some.ensures.some)))
    c.normal_from.ensures
