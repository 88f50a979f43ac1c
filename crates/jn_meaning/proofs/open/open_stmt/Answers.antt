use Rattle.jn_meaning.specs.Work.{todo_in}
use Rattle.jn_meaning.proofs.Lists.{on_ok}
use Rattle.jn_meaning.proofs.Opening.{is_block, is_local, is_assign, is_set, is_call, is_choice, is_loop, is_return, is_print, is_print_text}
use Rattle.jn_meaning.proofs.open.open_stmt.Goals as goal

pub returns-in-Block : goal.returns-in-Block
returns-in-Block c = on_ok c.open_block.result (is_block c.args.scope c.args.path c.args.rest.now (todo_in c.args.work.now) c.args.s.now c.in-Block.body c.as_slice.result.now _ c.in-Block.is c.as_slice.ensures) c.open_block.ensures

pub returns-in-Local : goal.returns-in-Local
returns-in-Local c = on_ok c.open_local.result (is_local c.args.scope c.args.path c.args.rest.now (todo_in c.args.work.now) c.args.s.now c.in-Local.fixed c.in-Local.ty c.in-Local.x c.in-Local.e _ c.in-Local.is) c.open_local.ensures

pub returns-in-Assign : goal.returns-in-Assign
returns-in-Assign c = on_ok c.open_one.result (is_assign c.args.scope c.args.path c.args.rest.now (todo_in c.args.work.now) c.args.s.now c.in-Assign.x c.in-Assign.e _ c.in-Assign.is) c.open_one.ensures

pub returns-in-Set : goal.returns-in-Set
returns-in-Set c = on_ok c.open_set.result (is_set c.args.scope c.args.path c.args.rest.now (todo_in c.args.work.now) c.args.s.now c.in-Set.of c.in-Set.x c.in-Set.e _ c.in-Set.is) c.open_set.ensures

pub returns-in-Do : goal.returns-in-Do
returns-in-Do c = on_ok c.open_do.result (is_call c.args.scope c.args.path c.args.rest.now (todo_in c.args.work.now) c.args.s.now c.in-Do.e _ c.in-Do.is) c.open_do.ensures

pub returns-in-If : goal.returns-in-If
returns-in-If c = on_ok c.open_if.result (is_choice c.args.scope c.args.path c.args.rest.now (todo_in c.args.work.now) c.args.s.now c.in-If.e c.in-If.one c.as_slice-in-If.result.now c.in-If.other c.as_slice-in-If-2.result.now c.in-If.field-3 _ c.in-If.is c.as_slice-in-If.ensures c.as_slice-in-If-2.ensures) c.open_if.ensures

pub returns-in-While : goal.returns-in-While
returns-in-While c = on_ok c.open_while.result (is_loop c.args.scope c.args.path c.args.rest.now (todo_in c.args.work.now) c.args.s.now c.in-While.e c.in-While.body c.as_slice-in-While.result.now c.in-While.field-2 _ c.in-While.is c.as_slice-in-While.ensures) c.open_while.ensures

pub returns-in-Return : goal.returns-in-Return
returns-in-Return c = on_ok c.open_return.result (is_return c.args.scope c.args.path c.args.rest.now (todo_in c.args.work.now) c.args.s.now c.in-Return.e c.in-Return.field-1 _ c.in-Return.is) c.open_return.ensures

pub returns-in-Print : goal.returns-in-Print
returns-in-Print c = on_ok c.open_one-in-Print.result (is_print c.args.scope c.args.path c.args.rest.now (todo_in c.args.work.now) c.args.s.now c.in-Print.e c.in-Print.field-1 _ c.in-Print.is) c.open_one-in-Print.ensures

pub returns-in-PrintText : goal.returns-in-PrintText
returns-in-PrintText c = on_ok c.open_alone.result (is_print_text c.args.scope c.args.path c.args.rest.now (todo_in c.args.work.now) c.args.s.now c.in-PrintText.text c.in-PrintText.field-1 _ c.in-PrintText.is) c.open_alone.ensures
