-- the bytes so far and the rest are what was begun, and no count has fallen
use Rattle.std.proofs.Common.{◌≡◌, ◌≤◌}
use Rattle.std.specs.Io.KnownBytes.{prepend_known}
use Rattle.whole_tests.proofs.tests.read_file.Given as goal

abbrev pub invariant-loop : goal.invariant-loop
invariant-loop g l =
    record {
      later : g.S.Store.read_faults l.initial.store ≤ g.S.Store.read_faults l.store;
      bytes : prepend_known l.bytes.items (g.S.Store.rest l.store) ≡ g.S.Store.rest l.initial.store;
    }
