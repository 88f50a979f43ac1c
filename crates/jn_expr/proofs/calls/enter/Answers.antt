use Rattle.std.proofs.Common.{◌∙◌, sym}
use Rattle.jn_heads.specs.Params.{header_in}
use Rattle.jn_heads.specs.declared.params.Header.{Header}
use Rattle.jn_expr.specs.Envs.{here_at}
use Rattle.jn_expr.specs.Calling.{body_of}
use Rattle.jn_expr.proofs.CallSteps.{enter_fault, enter_unlike, enter_told}
use Rattle.jn_expr.proofs.CallDepths.{header_fits}
use Rattle.jn_expr.proofs.calls.enter.Goals as goal

pub returns-then-len-count-clause-told : goal.returns-then-len-count-clause-told
returns-then-len-count-clause-told c = λ go.
    enter_unlike c.args.p.now (here_at c.args.class.now c.args.m.now c.args.env.now.vars.list) (body_of c.args.owner.now c.args.method.now) c.args.at c.args.count go c.args.env.now.marks
    (λ (h : Header). go (header_in c.header_of.new.pool h)) c.args.env.now.marks (header_in c.header_of.new.pool c.in-Ok.header) c.in-Ok.ensures.told
    (λ e. c.if-len-count.true (c.len.ensures ∙ e)) c.refused.result c.refused.ensures

pub returns-in-Err-clause-told : goal.returns-in-Err-clause-told
returns-in-Err-clause-told c = λ go.
    enter_fault c.args.p.now (here_at c.args.class.now c.args.m.now c.args.env.now.vars.list) (body_of c.args.owner.now c.args.method.now) c.args.at c.args.count go c.args.env.now.marks
    (header_in c.header_of.new.pool) (λ (h : Header). go (header_in c.header_of.new.pool h)) c.args.env.now.marks c.in-Err.fault c.in-Err.ensures.told

pub returns-in_ok-note_member-in-Ok-clause-told : goal.returns-in_ok-note_member-in-Ok-clause-told
returns-in_ok-note_member-in-Ok-clause-told c = λ go.
    enter_told c.args.p.now (here_at c.args.class.now c.args.m.now c.args.env.now.vars.list) (body_of c.args.owner.now c.args.method.now) c.args.at c.args.count go c.args.env.now.marks
    c.note_member.new.marks (header_in c.header_of.new.pool c.in-Ok.header) c.in-Ok.ensures.told (sym c.len.ensures ∙ c.if-len-count.false) c.in_ok-note_member-in-Ok.ensures

pub returns-in_ok-note_member-in-Ok-clause-fits : goal.returns-in_ok-note_member-in-Ok-clause-fits
returns-in_ok-note_member-in-Ok-clause-fits c =
    header_fits c.args.p.now c.args.owner.now c.args.method.now (header_in c.header_of.new.pool c.in-Ok.header) c.requires.parts.shallow c.requires.parts.well c.requires.at
    c.in-Ok.ensures.told

pub returns-in_ok-note_member-in-Ok-clause-count : goal.returns-in_ok-note_member-in-Ok-clause-count
returns-in_ok-note_member-in-Ok-clause-count c = sym c.len.ensures ∙ c.if-len-count.false
