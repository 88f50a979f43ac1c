use Rattle.std.proofs.Common.{refl, ◌++◌, [], ◌∷◌, List, Bool, ℕ, ap, sym, ◌∙◌}
use Rattle.jn_code.specs.declared.instr.Instr.{Instr}
use Rattle.jn_lower.specs.declared.emitter.Locals.{Locals}
use Rattle.jn_lower.specs.Stores.{stored}
use Rattle.jn_lower.specs.Written.{is_reference}
use Rattle.jn_lower.proofs.Seams.{on_ok}
use Rattle.jn_lower.proofs.walk_locals.bound.Goals as goal

pub returns : goal.returns
returns c =
    let own = c.in_ok-own.ensures in
    on_ok c.stored.result (λ h. record {
      number = sym c.if-own-q.false ∙ own.number;
      few = c.ranges.q.fits;
      instrs = h.instrs ∙ ap (λ (l : List Instr). l ++ stored c.args.fixed c.is_reference.result c.in_ok-own.own) own.declares.instrs
          ∙ ap (λ (b : Bool). c.args.w.now.out.instrs ++ stored c.args.fixed b c.in_ok-own.own) c.is_reference.ensures
          ∙ ap (λ (q : ℕ). c.args.w.now.out.instrs ++ stored c.args.fixed (is_reference c.args.ty.now) q) own.number;
      kinds = ap (λ (l : Locals). l.kinds) h.locals ∙ own.declares.kinds
          ∙ ap (λ (k : ℕ). c.args.w.now.out.locals.kinds ++ k ∷ []) c.written_kind.ensures;
      spare = ap (λ (l : Locals). l.spare) h.locals ∙ own.declares.spare;
      scratch = ap (λ (l : Locals). l.scratch) h.locals ∙ own.declares.scratch;
      marks = refl;
    }) c.stored.ensures
