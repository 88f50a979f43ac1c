use Rattle.std.proofs.Common.{◌+◌, ◌++◌, ◌∙◌, ap, List, ℕ, get_or, sym, subst}
use Rattle.std.specs.declared.vec.Vec.{Vec}
use Rattle.std.specs.declared.alloc.Global.{Global}
use Rattle.jn_table.specs.declared.class.ClassId.{ClassId}
use Rattle.jn_share.proofs.FieldEntries.{EntriesTo, entries_more, entries_skip, entries_all, any_default}
use Rattle.jn_share.proofs.declaring.entries_of.Goals as goal
use Rattle.jn_share.proofs.declaring.entries_of.Goals.{in-Some+in_ok-extend_from_slice, in_default}

pub loop-s-preserved : goal.loop-s-preserved
loop-s-preserved c =
    let own = c.args.own.now in
    let sups = c.args.sups.now in
    let m = c.loop-s.s-index in
    let zero : ClassId = record { 0 = 0 } in
    let s = get_or sups m zero in
    let here = any_default sups m zero s c.loop-s-test.true in
    elim c.match-at.branch [
      | in-Some+in_ok-extend_from_slice w ↦
          subst (λ (all : Vec ℕ Global). EntriesTo own sups (m + 1) all.items) (sym w.all-is)
          (entries_more own sups m s w.in-Some.row.now c.loop-s.all.items w.extend_from_slice.new.self.items c.loop-s-test.true here (sym w.in-Some.ensures)
          (w.in_ok-extend_from_slice.ensures.items ∙ ap (λ (xs : List ℕ). c.loop-s.all.items ++ xs) w.deref.ensures.value) c.loop-s.invariant)
      | in_default w ↦
          subst (λ (all : Vec ℕ Global). EntriesTo own sups (m + 1) all.items) (sym w.all-is)
          (entries_skip own sups m s c.loop-s.all.items c.loop-s-test.true here w.in_default.ensures c.loop-s.invariant)
    ]

pub returns : goal.returns
returns c = entries_all c.args.own.now c.args.sups.now c.loop-s.s-index c.loop-s.all.items c.loop-s-test.false c.loop-s.invariant
