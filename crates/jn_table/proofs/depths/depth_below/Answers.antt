use Rattle.std.proofs.Common.{◌<◌, ◌-◌, arith, refl, length}
use Rattle.std.proofs.lemmas.Option.{slice_get_read}
use Rattle.jn_reach.proofs.Eachs.{All_here}
use Rattle.jn_table.specs.declared.level.Child.{Child}
use Rattle.jn_table.proofs.DepthSteps.{front_within, some_length}
use Rattle.jn_table.proofs.depths.depth_below.Goals as goal

pub index-requires : goal.index-requires
index-requires c =
    let l : c.args.room - 1 < length c.in_ok-members.members.items =
    omega (arith, c.if-len-room.true, c.len.ensures, c.in_ok-members.members.ok.0, c.requires.some) in
    let w = All_here (λ (m : Child). m.up < length c.args.level.now.paths.items) _ _ _ l c.index-last.ensures
    (front_within _ _ _ _ _ _ c.in_ok-members.ensures) in
    omega (arith, w, c.args.level.now.paths.ok.0)

pub returns-then-len-room : goal.returns-then-len-room
returns-then-len-room c =
    let l : c.args.room - 1 < length c.in_ok-members.members.items =
    omega (arith, c.if-len-room.true, c.len.ensures, c.in_ok-members.members.ok.0, c.requires.some) in
    let w = All_here (λ (m : Child). m.up < length c.args.level.now.paths.items) _ _ _ l c.index-last.ensures
    (front_within _ _ _ _ _ _ c.in_ok-members.ensures) in
    record {
      children = c.in_ok-members.members.items;
      front = c.in_ok-members.ensures;
      last = c.index-last.result.now;
      last_at = slice_get_read _ _ _ c.index-last.result.now refl l c.index-last.ensures;
      up = c.index.result.now;
      up_at = slice_get_read _ _ _ c.index.result.now refl w c.index.ensures;
      is = c.in_ok-over.ensures;
    }

pub next-requires-clause-children : goal.next-requires-clause-children
next-requires-clause-children c = rw c.deref-4.ensures.value (front_within _ _ _ _ _ _ c.in_ok-members.ensures)

pub returns : goal.returns
returns c = record {
  children = c.in_ok-members.members.items;
  front = c.in_ok-members.ensures;
  some = some_length _ _ _ c.in_ok-members.members.ok.0 c.is_empty.ensures c.if-is_empty.false;
  few = omega (arith, c.if-len-room.false, c.len.ensures, c.in_ok-members.members.ok.0);
  shaped = c.in_ok-below.ensures.shaped;
  paths = rw c.deref-4.ensures.value at c.in_ok-below.ensures.paths;
  exact = rw c.deref-4.ensures.value at c.in_ok-below.ensures.exact;
}
