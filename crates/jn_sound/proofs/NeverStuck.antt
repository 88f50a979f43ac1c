-- An accepted program is never Stuck.
use Rattle.jn_base.specs.declared.tree.Program.{Program}
use Rattle.jn_base.specs.Members.{MethodAt}
use Rattle.jn_base.specs.WithinLimits.{IsWithinLimits}
use Rattle.jn_laws.proofs.PlacesAside.{programs_within_limits}
use Rattle.jn_body_laws.proofs.Formed.{bodies_formed}
use Rattle.jn_rules.specs.Stmts.{In, body_in}
use Rattle.jn_rules.specs.Verdict.{TreePasses}
use Rattle.jn_sound.proofs.Theorem.{sound}
use Rattle.jn_sound.proofs.StartKnown.{start_known, start_method, start_few}
use Rattle.jn_sound.proofs.BodiesPass.{body_passes}
use Rattle.jn_sound.specs.Tree.{ProgramKnown}
use Rattle.jn_sound.specs.Stmts.{BodyKnown, StatementsFit}
use Rattle.jn_sound.specs.Bodies.{NeedsAreMet, ProgramsNeverStuck}
use Rattle.jn_sound.proofs.OtherExprs.{expressions_fit, calls_fit}
use Rattle.jn_sound.proofs.FormedParts.{stands_formed}
use Rattle.jn_sound.proofs.AllStmts.{in_order}
use Rattle.jn_sound.proofs.EachStmt.{all_fit}
use Rattle.jn_sound.proofs.Loops.{loop_again, body_goes}

body_known : (p : Program) (b : In) → ProgramKnown p → MethodAt p b.class b.method.name.name b.method → BodyKnown p b
body_known p b its method = record {
  shallow = its.shallow;
  well = its.well;
  method = method;
  formed = stands_formed p b.method.body (its.bodies.formed b.class b.method.name.name b.method method);
  exprs = λ vs e. expressions_fit p b vs its method e;
  calls = λ vs e. calls_fit p b vs its e;
}

pub statements_fit : StatementsFit
statements_fit p b its method =
    let known = body_known p b its method in
    (all_fit p b known, λ ss. in_order p b ss (λ s m. all_fit p b known s))

program_known : (p : Program) → IsWithinLimits p → TreePasses p → ProgramKnown p
program_known p i ok =
    let w = programs_within_limits p i in
    record {
      once = ok.bodies.once;
      members = ok.bodies.headers.limits.members;
      shallow = w.shallow;
      well = w.formed;
      bodies = bodies_formed p i;
    }

pub needs_are_met : NeedsAreMet
needs_are_met p i ok = record {
  loop_fits = λ b vs s path e body k loop behind.
      loop_again p b (body_known p b (program_known p i ok) loop.method) vs s path e body k loop behind;
  body_fits = λ V m b x class body header.
      let w = programs_within_limits p i in
      let method = start_method p w b m x body.at header in
      body_goes p b x (body_known p (body_in b x) (program_known p i ok) method)
      (start_known p w b m x body.at header) (start_few p w b m x body.at header)
      (body_passes p ok.bodies.bodies b m x body.at header);
}

pub never_stuck : ProgramsNeverStuck
never_stuck p i ok b a d o out run w e = sound p i ok (needs_are_met p i ok) b a d o out run w e
