-- The headers of bodies: one each, and their types fit where they stand.
use Rattle.std.specs.Prelude.{◌≡◌, Some, None}
use Rattle.jn_base.specs.declared.tree.Name.{Name}
use Rattle.jn_base.specs.declared.tree.Method.{Method}
use Rattle.jn_base.specs.declared.tree.TypeTerm.{TypeTerm}
use Rattle.jn_base.specs.declared.tree.Program.{Program}
use Rattle.jn_base.specs.declared.types.Ty.TheVariants as ty
use Rattle.jn_base.specs.Paths.{Path}
use Rattle.jn_base.specs.Universe.{InUniverse}
use Rattle.jn_base.specs.Members.{MethodAt}
use Rattle.jn_sem.specs.Does.{Body}
use Rattle.jn_laws.specs.LawsOfWritten.{Shallow, TypeThere, ParamsOf}
use Rattle.jn_laws.specs.LawsOfSources.{WellFormed}
use Rattle.jn_rule_laws.specs.LawsOfHeaders.{IsHeader}
use Rattle.jn_rules.specs.Headers.{Header, site_in}

-- a body has one header at most
abbrev pub HeadersAreOne : Type 0
HeadersAreOne = (p : Program) (b : Body) (x y : Header) → IsHeader p b x → IsHeader p b y → x ≡ y

abbrev pub body_at : Path → Method → Body
body_at Q m = record { class = Q; method = m }

-- The parameters of a header fit their places, and its result, where it has one, fits where all of them are in scope.
pub record HeaderFits (p : Program) (b : Body) (x : Header) : Type 0 where
  pub params : ParamsOf p b x.vars
  pub void : b.method.result ≡ None → x.result ≡ ty.Void
  pub result : (t : TypeTerm) → b.method.result ≡ Some t → TypeThere (site_in b x.vars) x.result

abbrev pub HeadersFit : Type 0
HeadersFit = (p : Program) (Q : Path) (m : Name) (x : Method) (h : Header) → Shallow p → WellFormed p → InUniverse p Q → MethodAt p Q m x
    → IsHeader p (body_at Q x) h → HeaderFits p (body_at Q x) h
