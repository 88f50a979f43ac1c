use Rattle.std.proofs.Common.{◌≡◌, ◌+◌, drop, length}
use Rattle.jn_lower.specs.declared.walk.Walk.{Walk}
use Rattle.jn_lower.specs.Walks.{LowersLinks, LowersTail, LowersParts, LowersArgs}
use Rattle.jn_lower.proofs.walk_exprs.+exprs.Given as goal

abbrev pub invariant-links-loop-l : goal.invariant-links-loop-l
invariant-links-loop-l l =
    (new : Walk) → LowersLinks l.g (drop l.l-index l.ls) l.w new → LowersLinks l.g l.ls l.fn.w new

abbrev pub invariant-parts-loop-z : goal.invariant-parts-loop-z
invariant-parts-loop-z l = record {
  so : (new : Walk) → LowersTail l.g l.keeps (drop l.z-index l.zs) l.w new → LowersParts l.g l.keeps l.zs l.fn.w new;
  left : l.left + l.z-index ≡ length l.zs;
}

abbrev pub invariant-args-loop-e : goal.invariant-args-loop-e
invariant-args-loop-e l =
    (new : Walk) → LowersArgs l.g (drop l.e-index l.es) l.w new → LowersArgs l.g l.es l.fn.w new

abbrev pub invariant-further-loop-i : goal.invariant-further-loop-i
invariant-further-loop-i l =
    (new : Walk) → LowersArgs l.g (drop l.i l.es) l.w new → LowersArgs l.g (drop 1 l.es) l.fn.w new
