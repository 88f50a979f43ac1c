use Rattle.std.proofs.Common.{◌≡◌, ◌≤◌, ◌-◌, length}
use Rattle.std.specs.Io.KnownBytes.{prepend_known}
use Rattle.jn_drive.proofs.read.read_rest.Given as goal

abbrev pub invariant-loop-buffer : goal.invariant-loop-buffer
invariant-loop-buffer g l =
    (length l.source.items ≤ l.fn.most) × (g.S.Store.rest l.fn.store ≡ prepend_known l.source.items (g.S.Store.rest l.store)) × (g.S.Store.read_faults l.store ≡ g.S.Store.read_faults l.fn.store)
    × (g.S.Store.files l.store ≡ g.S.Store.files l.fn.store) × (g.S.Store.save_faults l.store ≡ g.S.Store.save_faults l.fn.store)

abbrev pub decreases-loop-buffer : goal.decreases-loop-buffer
decreases-loop-buffer g l = l.fn.most - length l.source.items
