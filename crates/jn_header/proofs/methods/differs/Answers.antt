use Rattle.jn_header.proofs.methods.differs.Goals as goal

pub returns-then-declaring-sups : goal.returns-then-declaring-sups
returns-then-declaring-sups c = λ b p t R bo n are is. c.declared_differs.ensures b p t R bo n is

pub returns : goal.returns
returns c = λ b p t R bo n are is. c.super_differs.ensures b p t R bo are is
