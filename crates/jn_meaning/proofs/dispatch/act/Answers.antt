use Rattle.std.proofs.Common.{rules, ◌≡◌, ℤ, subst, to_z, of_z, w64}
use Rattle.std.specs.Prelude.{IfOk}
use Rattle.jn_meaning.specs.declared.act.Act.TheVariants as act
use Rattle.jn_meaning.specs.Work.{act_of}
use Rattle.jn_meaning.proofs.Lists.{if_ok}
use Rattle.jn_meaning.proofs.ActsDone.{acted, acted_plainly, acted_done, acted_changed}
use Rattle.jn_meaning.specs.Heaps.{heap_of}
use Rattle.jn_meaning.specs.Frames.{frame_of, Plainly}
use Rattle.jn_meaning.proofs.dispatch.act.Goals as goal

pub returns-in-Number-clause-did : goal.returns-in-Number-clause-did
returns-in-Number-clause-did c =
    let e : to_z w64 (of_z w64 c.in-Number.z) ≡ c.in-Number.z = search rules in
    if_ok c.push_number.result (λ d k. acted_plainly c.args.w.now c.args.t.now c.args.arena c.args.f.now c.args.h.now c.args.act d c.push_number.new.f (act.Number c.in-Number.z) c.in-Number.is k)
    (subst (λ (z : ℤ). IfOk c.push_number.result (λ d. Plainly (act_of (act.Number z)) c.args.f.now d c.push_number.new.f)) e c.push_number.ensures)

pub returns-in-Truth-clause-did : goal.returns-in-Truth-clause-did
returns-in-Truth-clause-did c =
    if_ok c.push_truth.result (λ d k. acted_plainly c.args.w.now c.args.t.now c.args.arena c.args.f.now c.args.h.now c.args.act d c.push_truth.new.f _ c.in-Truth.is k) c.push_truth.ensures

pub returns-in-Null-clause-did : goal.returns-in-Null-clause-did
returns-in-Null-clause-did c =
    if_ok c.push_null.result (λ d k. acted_plainly c.args.w.now c.args.t.now c.args.arena c.args.f.now c.args.h.now c.args.act d c.push_null.new.f _ c.in-Null.is k) c.push_null.ensures

pub returns-in-Read-clause-did : goal.returns-in-Read-clause-did
returns-in-Read-clause-did c =
    if_ok c.read.result (λ d k. acted_plainly c.args.w.now c.args.t.now c.args.arena c.args.f.now c.args.h.now c.args.act d c.read.new.f _ c.in-Read.is k) c.read.ensures

pub returns-in-This-clause-did : goal.returns-in-This-clause-did
returns-in-This-clause-did c =
    if_ok c.push_this.result (λ d k. acted_plainly c.args.w.now c.args.t.now c.args.arena c.args.f.now c.args.h.now c.args.act d c.push_this.new.f _ c.in-This.is k) c.push_this.ensures

pub returns-in-Invert-clause-did : goal.returns-in-Invert-clause-did
returns-in-Invert-clause-did c =
    if_ok c.invert.result (λ d k. acted_plainly c.args.w.now c.args.t.now c.args.arena c.args.f.now c.args.h.now c.args.act d c.invert.new.f _ c.in-Invert.is k) c.invert.ensures

pub returns-in-Negate-clause-did : goal.returns-in-Negate-clause-did
returns-in-Negate-clause-did c =
    if_ok c.negate.result (λ d k. acted_plainly c.args.w.now c.args.t.now c.args.arena c.args.f.now c.args.h.now c.args.act d c.negate.new.f _ c.in-Negate.is k) c.negate.ensures

pub returns-in-Operate-clause-did : goal.returns-in-Operate-clause-did
returns-in-Operate-clause-did c =
    if_ok c.operate.result (λ d k. acted_plainly c.args.w.now c.args.t.now c.args.arena c.args.f.now c.args.h.now c.args.act d c.operate.new.f _ c.in-Operate.is k) c.operate.ensures

pub returns-in-Decide-clause-did : goal.returns-in-Decide-clause-did
returns-in-Decide-clause-did c =
    if_ok c.decide.result (λ d k. acted_plainly c.args.w.now c.args.t.now c.args.arena c.args.f.now c.args.h.now c.args.act d c.decide.new.f _ c.in-Decide.is k) c.decide.ensures

pub returns-in-Choose-clause-did : goal.returns-in-Choose-clause-did
returns-in-Choose-clause-did c =
    if_ok c.choose.result (λ d k. acted_plainly c.args.w.now c.args.t.now c.args.arena c.args.f.now c.args.h.now c.args.act d c.choose.new.f _ c.in-Choose.is k) c.choose.ensures

pub returns-in-Repeat-clause-did : goal.returns-in-Repeat-clause-did
returns-in-Repeat-clause-did c =
    if_ok c.repeat.result (λ d k. acted_plainly c.args.w.now c.args.t.now c.args.arena c.args.f.now c.args.h.now c.args.act d c.repeat.new.f _ c.in-Repeat.is k) c.repeat.ensures

pub returns-in-Get-clause-did : goal.returns-in-Get-clause-did
returns-in-Get-clause-did c =
    if_ok c.get.result (λ d k. acted_done c.args.w.now c.args.t.now c.args.arena c.args.f.now c.args.h.now c.args.act d c.get.new.f _ c.in-Get.is k) c.get.ensures.did

pub returns-in-Bind-clause-did : goal.returns-in-Bind-clause-did
returns-in-Bind-clause-did c =
    if_ok c.bind_at.result (λ d k. acted_done c.args.w.now c.args.t.now c.args.arena c.args.f.now c.args.h.now c.args.act d c.bind_at.new.f _ c.in-Bind.is k) c.bind_at.ensures.did

pub returns-in-Assign-clause-did : goal.returns-in-Assign-clause-did
returns-in-Assign-clause-did c =
    if_ok c.assign.result (λ d k. acted_done c.args.w.now c.args.t.now c.args.arena c.args.f.now c.args.h.now c.args.act d c.assign.new.f _ c.in-Assign.is k) c.assign.ensures

pub returns-in-Return-clause-did : goal.returns-in-Return-clause-did
returns-in-Return-clause-did c =
    if_ok c.return_by.result (λ d k. acted_done c.args.w.now c.args.t.now c.args.arena c.args.f.now c.args.h.now c.args.act d c.return_by.new.f _ c.in-Return.is k) c.return_by.ensures.did

pub returns-in-Call-clause-did : goal.returns-in-Call-clause-did
returns-in-Call-clause-did c =
    if_ok c.call.result (λ d k. acted_done c.args.w.now c.args.t.now c.args.arena c.args.f.now c.args.h.now c.args.act d c.call.new.f _ c.in-Call.is (k c.args.h.now)) c.call.ensures.did

pub returns-in-Super-clause-did : goal.returns-in-Super-clause-did
returns-in-Super-clause-did c =
    if_ok c.call_super.result (λ d k. acted_done c.args.w.now c.args.t.now c.args.arena c.args.f.now c.args.h.now c.args.act d c.call_super.new.f _ c.in-Super.is (k c.args.h.now)) c.call_super.ensures.did

pub returns-in-View-clause-did : goal.returns-in-View-clause-did
returns-in-View-clause-did c =
    if_ok c.view.result (λ d k. acted_done c.args.w.now c.args.t.now c.args.arena c.args.f.now c.args.h.now c.args.act d c.view.new.f _ c.in-View.is (k c.args.h.now)) c.view.ensures.did

pub returns-in-Make-clause-did : goal.returns-in-Make-clause-did
returns-in-Make-clause-did c =
    if_ok c.make.result (λ d k. acted c.args.w.now c.args.t.now c.args.arena c.args.f.now c.args.h.now c.args.act d c.make.new.f _ c.make.new.h c.in-Make.is k) c.make.ensures.did

pub returns-in-Begin-clause-did : goal.returns-in-Begin-clause-did
returns-in-Begin-clause-did c =
    if_ok c.begin.result (λ d k. acted c.args.w.now c.args.t.now c.args.arena c.args.f.now c.args.h.now c.args.act d c.begin.new.f _ c.begin.new.h c.in-Begin.is k) c.begin.ensures.did

pub returns-in-Put-clause-did : goal.returns-in-Put-clause-did
returns-in-Put-clause-did c =
    if_ok c.put.result (λ d k. acted_changed c.args.w.now c.args.t.now c.args.arena c.args.f.now c.args.h.now c.args.act d c.put.new.f _ c.put.new.h c.in-Put.is k) c.put.ensures.did

pub returns-in-Open-clause-did : goal.returns-in-Open-clause-did
returns-in-Open-clause-did c =
    if_ok c.open.result (λ d k. acted c.args.w.now c.args.t.now c.args.arena c.args.f.now c.args.h.now c.args.act d c.open.new.f _ c.args.h.now c.in-Open.is (k c.args.arena)) c.open.ensures.did

pub returns-in-Print-clause-did : goal.returns-in-Print-clause-did
returns-in-Print-clause-did c =
    acted_plainly c.args.w.now c.args.t.now c.args.arena c.args.f.now c.args.h.now c.args.act c.print.result c.print.new.f _ c.in-Print.is c.print.ensures

pub returns-in-PrintText-clause-did : goal.returns-in-PrintText-clause-did
returns-in-PrintText-clause-did c =
    acted c.args.w.now c.args.t.now c.args.arena c.args.f.now c.args.h.now c.args.act c.print_text.result c.args.f.now _ c.args.h.now c.in-PrintText.is (c.print_text.ensures c.args.t.now.known.items (frame_of c.args.t.now.known.items c.args.f.now) c.args.arena (heap_of c.args.t.now.known.items c.args.h.now))
