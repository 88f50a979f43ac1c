use Rattle.std.proofs.Common.{◌≡◌, drop}
use Rattle.jn_sem.specs.Acts.{path_behind}
use Rattle.jn_lower.proofs.path_behind.+locals.Given as goal

abbrev pub invariant-path_behind-loop-s : goal.invariant-path_behind-loop-s
invariant-path_behind-loop-s l = path_behind (drop l.s-index l.ss) l.at ≡ path_behind l.ss l.fn.path
