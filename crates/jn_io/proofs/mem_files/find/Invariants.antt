-- so far the last save under the name is the one found
use Rattle.std.proofs.Common.{◌≡◌, ◌<◌, take, None, MatchOption}
use Rattle.std.specs.FinMap.{get}
use Rattle.jn_io.specs.MemFiles.{files_of, bytes_at}
use Rattle.jn_io.proofs.mem_files.find.Given as goal

abbrev pub invariant-loop-k : goal.invariant-loop-k
invariant-loop-k l = MatchOption l.found (get (files_of (take l.k l.saves)) l.name ≡ None)
    (λ k. (k < l.k) × (get (files_of (take l.k l.saves)) l.name ≡ bytes_at l.saves k))
