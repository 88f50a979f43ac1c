-- Each code goes with its body, from what stands of the bodies.
use Rattle.std.proofs.Common.{◌≡◌, ℕ, List, Some, subst, Contains}
use Rattle.std.specs.Prelude.{slice_get}
use Rattle.std.proofs.lemmas.Option.{slice_get_within, get_or_from_slice_get}
use Rattle.jn_base.specs.Members.{MethodAt}
use Rattle.jn_sem.specs.Does.{Body, Entry}
use Rattle.jn_rules.specs.Headers.{Header}
use Rattle.jn_rule_laws.specs.LawsOfHeaders.{IsHeader}
use Rattle.jn_places.specs.StmtPlaces.{TypedBodyAt}
use Rattle.jn_place_laws.specs.LawsOfPlaces.{BodiesAgree}
use Rattle.jn_place_laws.proofs.Declared.{declared}
use Rattle.jn_place_laws.proofs.Bodies.{bodies_agree}

abbrev entry_body : Entry → Body
entry_body e = record { class = e.class; method = e.method }

same_body : (b c : Body) → b.class ≡ c.class → b.method ≡ c.method → b ≡ c
same_body b c e f j = record { class = e j; method = f j }

contained : {A : Type 0} (xs : List A) (k : ℕ) (x : A) → slice_get xs k ≡ Some x → Contains xs x
contained xs k x e = (k, slice_get_within xs k x e, get_or_from_slice_get xs k x x e)

pub bodies_agree_so : BodiesAgree
bodies_agree_so p w ok i n m rows few high stands = bodies_agree p w ok i n m rows few high (λ e code it there is.
    let same = same_body is.body (entry_body e) is.class is.method in (
      subst (λ (d : Body). MethodAt p d.class d.method.name.name d.method) same
          (declared p is.body
          (subst (λ (bs : List Body). Contains bs is.body) rows.codes.bodies (contained n.bodies code is.body is.at))),
      subst (λ (d : Body). (hd : Header) → IsHeader p d hd → TypedBodyAt p n d hd it) same
          (stands code is.body it is.at there),
    ))
