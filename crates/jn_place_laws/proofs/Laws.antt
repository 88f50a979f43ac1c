-- What soundness gives to the nodes, together.
use Rattle.std.proofs.Common.{ℕ, List}
use Rattle.jn_base.specs.declared.tree.Program.{Program}
use Rattle.jn_base.specs.declared.names.Var.{Var}
use Rattle.jn_base.specs.Scopes.{Scope}
use Rattle.jn_code.specs.declared.image.Image.{Image}
use Rattle.jn_code.specs.declared.image.Code.{Code}
use Rattle.jn_sem.specs.State.{Frame}
use Rattle.jn_laws.proofs.PlacesAside.{programs_within_limits}
use Rattle.jn_rules.specs.Headers.{Header}
use Rattle.jn_sound.proofs.Laws.{Laws}
use Rattle.jn_sound.proofs.Accepted.{laws}
use Rattle.jn_agree.specs.Naming.{Naming}
use Rattle.jn_place_laws.specs.LawsOfContexts.{ActsLead, FactsHold, ContextsLead, CalleesHaveShapes}
use Rattle.jn_place_laws.proofs.Leads.{acts_lead, moves_lead, decides, chooses, repeats, returns_lead, leaves_lead, ends_lead}
use Rattle.jn_place_laws.proofs.Facts.{reads, writes, prints, compares, refers}
use Rattle.jn_place_laws.proofs.Calls.{calls_well, callee_shape}

pub acts_lead_so : (p : Program) → Laws p → (i : Image) (n : Naming) (m code : ℕ) (it : Code) (r : Frame)
    (hd : Header) → ActsLead p i n m code it r hd
acts_lead_so p l i n m code it r hd = record {
  acts = acts_lead p l i n m code it r hd;
  moves = moves_lead p l i n m code it r hd;
  decides = decides p l i n m code it r hd;
  chooses = chooses p l i n m code it r hd;
  repeats = repeats p l i n m code it r hd;
  returns = returns_lead p l i n m code it r hd;
  leaves = leaves_lead p l i n m code it r hd;
  ends = ends_lead p l i n m code it r hd;
}

pub facts_hold : (p : Program) → Laws p → (i : Image) (n : Naming) (m code : ℕ) (it : Code) (r : Frame) (hd : Header)
    (vs : List Var) (s : Scope) → FactsHold p i n m code it r hd vs s
facts_hold p l i n m code it r hd vs s = record {
  reads = reads p l r hd vs s;
  writes = writes p l r hd vs s;
  calls = calls_well p l r hd vs s;
  prints = prints p l r hd vs s;
  compares = compares p l r hd vs s;
  refers = refers p l r hd vs s;
}

pub contexts_lead_so : ContextsLead
contexts_lead_so p w ok need i n m code it r hd =
    let l = laws p (programs_within_limits p w) ok need in
    (acts_lead_so p l i n m code it r hd, facts_hold p l i n m code it r hd)

pub callees_have_shapes_so : CalleesHaveShapes
callees_have_shapes_so p w ok need = callee_shape p (laws p (programs_within_limits p w) ok need)
