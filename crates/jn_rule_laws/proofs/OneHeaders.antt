-- A header is one, and its types fit.
use Rattle.std.proofs.Common.{◌≡◌, List, sym, ◌∙◌, subst, Option, Some, None}
use Rattle.jn_base.specs.declared.tree.TypeTerm.{TypeTerm}
use Rattle.jn_base.specs.declared.tree.Program.{Program}
use Rattle.jn_base.specs.declared.types.Ty.{Ty}
use Rattle.jn_base.specs.declared.names.Var.{Var}
use Rattle.jn_sem.specs.Does.{Body}
use Rattle.jn_sem.proofs.FindingLaws.{finds_one}
use Rattle.jn_laws.specs.LawsOfWritten.{ParamsOf}
use Rattle.jn_laws.proofs.Params.{params_fit}
use Rattle.jn_laws.proofs.WrittenTypes.{of_value}
use Rattle.jn_rules.specs.Headers.{Header, site_in}
use Rattle.jn_rule_laws.specs.LawsOfOneHeader.{HeadersAreOne, body_at, HeadersFit}
use Rattle.jn_rule_laws.specs.LawsOfHeaders.{ResultIs, IsHeader}

module _ (p : Program) (b : Body) where
  same_header : (x y : Header) → x.vars ≡ y.vars → x.result ≡ y.result → x ≡ y
  same_header x y e f i = record { vars = e i; result = f i }

  result_once : (vars : List Var) (o : Option TypeTerm) (t u : Ty) → ResultIs p b vars o t → ResultIs p b vars o u → t ≡ u
  result_once vars None t u a c = a ∙ sym c
  result_once vars (Some r) t u a c = (finds_one p).type (site_in b vars) r t u a c

  pub header_once : (x y : Header) → IsHeader p b x → IsHeader p b y → x ≡ y
  header_once x y a c =
      let e = (finds_one p).params b x.vars y.vars a.params c.params in
      same_header x y e (result_once y.vars b.method.result x.result y.result (subst (λ (vs : List Var). ResultIs p b vs b.method.result x.result) e a.result) c.result)

pub headers_are_one : HeadersAreOne
headers_are_one p b = header_once p b

pub headers_fit : HeadersFit
headers_fit p Q m x h deep formed u at is = record {
  params = params;
  void = λ e. subst (λ (o : Option TypeTerm). ResultIs p (body_at Q x) h.vars o h.result) e is.result;
  result = λ t e.
      of_value p deep (site_in (body_at Q x) h.vars) t h.result params.fit (formed.results Q m x t at e)
      (subst (λ (o : Option TypeTerm). ResultIs p (body_at Q x) h.vars o h.result) e is.result);
} where
  params : ParamsOf p (body_at Q x) h.vars
  params = params_fit p (body_at Q x) h.vars deep u (λ y i. formed.params Q m x y at i) is.params
