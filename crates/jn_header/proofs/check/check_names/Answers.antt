use Rattle.std.proofs.Common.{Ok, Err}
use Rattle.jn_heads.specs.declared.fault.CheckFault.TheVariants.{Refused}
use Rattle.jn_header.proofs.Checking.{refused_twice, nothing_twice, only_names}
use Rattle.jn_header.proofs.check.check_names.Goals as goal

pub returns-in-Some-clause-told : goal.returns-in-Some-clause-told
returns-in-Some-clause-told c = refused_twice c.args.p.now c.in-Some.refusal _ c.in-Some.is c.in_ok-refusal.ensures

pub returns-in-Some-clause-only : goal.returns-in-Some-clause-only
returns-in-Some-clause-only c = only_names c.args.p.now (Err (Refused c.in-Some.refusal)) (returns-in-Some-clause-told c)

pub returns-in-None-clause-told : goal.returns-in-None-clause-told
returns-in-None-clause-told c = nothing_twice c.args.p.now _ c.in-None.is c.in_ok-refusal.ensures

pub returns-in-None-clause-only : goal.returns-in-None-clause-only
returns-in-None-clause-only c = only_names c.args.p.now (Ok tt) (returns-in-None-clause-told c)
