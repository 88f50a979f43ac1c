use Rattle.std.proofs.Common.{rules}
use Rattle.jn_base.specs.Paths.{Path}
use Rattle.jn_base.specs.Supers.{Sup}
use Rattle.jn_header.specs.Methods.{IsOtherAt}
use Rattle.jn_header.proofs.Finding.{so, not_so}
use Rattle.jn_header.proofs.MethodNames.{other_in, none_in}
use Rattle.jn_header.proofs.Numbers.{path_at, each_more, each_all}
use Rattle.jn_header.proofs.methods.super_differs.Goals as goal

pub returns-then-is_other : goal.returns-then-is_other
returns-then-is_other c = λ b p t R bo are is.
    let w = path_at p t.known.items (Sup p R) c.args.sups.now are c.loop-id.id-index (record { 0 = 0 }) c.loop-id-test.true in
    other_in p b c.args.name R w.0 w.2 (so c.if-is_other.true (c.is_other.ensures b p t w.0 bo w.1 is))

pub loop-id-preserved : goal.loop-id-preserved
loop-id-preserved c = λ b p t R bo are is.
    each_more (λ (S : Path). IsOtherAt p b c.args.name S → ⊥) t.known.items c.args.sups.now c.loop-id.id-index
    (record { 0 = 0 }) c.loop-id-test.true
    (c.loop-id.invariant b p t R bo are is) (λ S n. not_so c.if-is_other.false (c.is_other.ensures b p t S bo n is))

pub returns : goal.returns
returns c = λ b p t R bo are is.
    none_in p b c.args.name R
    (each_all p t.known.items (Sup p R) c.args.sups.now are (λ (S : Path). IsOtherAt p b c.args.name S → ⊥)
    c.loop-id.id-index (search rules) (c.loop-id.invariant b p t R bo are is))
