use Rattle.std.proofs.Common.{subst, Vec, Global}
use Rattle.jn_base.specs.declared.token.Token.{Token}
use Rattle.jn_base.specs.Tokens.{TokensOf}
use Rattle.jn_lexer.proofs.Answer.{only_found, only_fault, fault_of}
use Rattle.jn_lexer.proofs.tokens.Goals as goal

pub returns-in-None-clause-only : goal.returns-in-None-clause-only
returns-in-None-clause-only c = only_found (λ v. v.items) c.args.bytes.now c.in_ok-tokens.field-0.tokens (subst (λ f. TokensOf c.args.bytes.now c.in_ok-tokens.field-0.tokens.items f) c.in-None.is c.in_ok-tokens.ensures.found)

pub returns-in-Some-clause-only : goal.returns-in-Some-clause-only
returns-in-Some-clause-only c = only_fault (λ (v : Vec Token Global). v.items) c.args.bytes.now c.in_ok-tokens.field-0.tokens.items c.in-Some.fault (subst (λ f. TokensOf c.args.bytes.now c.in_ok-tokens.field-0.tokens.items f) c.in-Some.is c.in_ok-tokens.ensures.found)

pub returns-in-Some-clause-fault : goal.returns-in-Some-clause-fault
returns-in-Some-clause-fault c = fault_of c.args.bytes.now c.in_ok-tokens.field-0.tokens.items c.in-Some.fault (subst (λ f. TokensOf c.args.bytes.now c.in_ok-tokens.field-0.tokens.items f) c.in-Some.is c.in_ok-tokens.ensures.found)
