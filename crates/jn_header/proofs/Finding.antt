-- What a search for heads finds.
use Rattle.std.proofs.Common.{◌≡◌, List, slice_get, Bool, true, false, Option, Some, None, nat_eq, refl, sym, ap, ◌∙◌, subst, Result, Ok}
use Rattle.indexmap.specs.IndexMap.{get}
use Rattle.jn_reach.proofs.Searches.{same_some}
use Rattle.jn_base.specs.declared.tree.Name.{Name}
use Rattle.jn_base.specs.declared.tree.Named.{Named}
use Rattle.jn_base.specs.declared.tree.Program.{Program}
use Rattle.jn_base.specs.declared.path.Path.{Path as ShownPath}
use Rattle.jn_base.specs.declared.refusal.Refusal.{Refusal}
use Rattle.jn_base.specs.Paths.{Path}
use Rattle.jn_base.specs.Members.{MethodAt, Least}
use Rattle.jn_base.specs.ProgramNames.{IsNamed}
use Rattle.jn_base.specs.TableRules.{DeclarationsPass}
use Rattle.jn_table.specs.declared.class.ClassId.{ClassId}
use Rattle.jn_table.specs.Rows.{IsNumber}
use Rattle.jn_names.specs.declared.members.Least.TheVariants as least
use Rattle.jn_names.specs.Members.{LeastIs}
use Rattle.jn_sem.specs.Does.{Body}
use Rattle.jn_rules.specs.Questions.{Gives, Answers}
use Rattle.jn_rules.specs.Headers.{Header, header_typed}
use Rattle.jn_rules.specs.Members.{Signature, signature, HasSignature, SameSignature}
use Rattle.jn_rule_laws.proofs.Replies.{one_outcome}
use Rattle.jn_header.specs.declared.bodies.BodyHead.{BodyHead}
use Rattle.jn_header.specs.declared.bodies.HeadRow.{HeadRow}
use Rattle.jn_header.specs.Bodies.{body_at, head_header, head_signature, IsHeadOf, AreHeadRows, ArePlaced, FindsHead, HeadIs, LeastHeadIs}

-- ---- whether it is so

pub so : {T : Type 0} {b : Bool} → b ≡ true → Answers T b → T
so {T} e h = subst (Answers T) e h

pub not_so : {T : Type 0} {b : Bool} → b ≡ false → Answers T b → T → ⊥
not_so {T} e h = subst (Answers T) e h

pub answers_as : {T U : Type 0} (b : Bool) → (T → U) → (U → T) → Answers T b → Answers U b
answers_as true f g h = f h
answers_as false f g h = λ u. h (g u)

-- ---- a row

module _ (p : Program) (known : List ShownPath) (rows : List HeadRow) (are : AreHeadRows p known rows) (id : ClassId) (R : Path) (n : IsNumber known id R) (name : Name) where
  pub head_told : (row : HeadRow) → slice_get rows id.0 ≡ Some row → (o : Option BodyHead)
      → (ArePlaced row.heads.items (get nat_eq row.places) → FindsHead row.heads.items name o) → HeadIs p R name o
  head_told row at o found =
      let e : row ≡ (are id R n).row = same_some (slice_get rows id.0) row (are id R n).row at (are id R n).at in
      of_row o (subst (λ (r : HeadRow). ArePlaced r.heads.items (get nat_eq r.places) → FindsHead r.heads.items name o) e found (are id R n).placed) where
        of_row : (o : Option BodyHead) → FindsHead (are id R n).row.heads.items name o → HeadIs p R name o
        of_row (Some x) f =
            let h = (are id R n).are.each x f.0 in
            let same : h.0.name.name ≡ name = ap (λ (y : Named). y.name) (sym h.2.name) ∙ f.1 in
            (h.0, subst (λ (m : Name). MethodAt p R m h.0) same h.1, h.2)
        of_row None f = λ m at.
            let h = (are id R n).are.all name m at in
            f h.0 h.1 (ap (λ (y : Named). y.name) h.2.name ∙ at.name)

  pub no_row : slice_get rows id.0 ≡ None → HeadIs p R name None
  no_row e = absurd (clash (are id R n).row ((sym e) ∙ (are id R n).at)) where
    clash : (row : HeadRow) → (let o : Option HeadRow = None in o ≡ Some row) → ⊥
    clash row k = cc k

-- ---- the least body

module _ (p : Program) (R : Path) (name : Name) where
  pub least_none : (known : List ShownPath) → LeastIs p known R name least.None → LeastHeadIs p R name None
  least_none known h = λ b i. h b.class i.least.among

  pub least_many : (known : List ShownPath) (a c : ClassId) → LeastIs p known R name (least.Many a c) → LeastHeadIs p R name None
  least_many known a c h = λ b i. h.1 b.class i.least

  pub least_one : (Q : Path) → Least p R name Q → (o : Option BodyHead) → HeadIs p Q name o → LeastHeadIs p R name o
  least_one Q l (Some x) h = (body_at Q h.0, record { least = l; at = h.1 }, h.2)
  least_one Q l None h = absurd (h l.among.method l.among.at)

-- ---- signatures

module _ (p : Program) (ok : DeclarationsPass p) (named : IsNamed p) where
  pub header_once : (b : Body) (x y : Header) → Gives p (header_typed b) (Ok x) → Gives p (header_typed b) (Ok y) → x ≡ y
  header_once b x y g h = same ((one_outcome p ok named (header_typed b)).one (Ok x) (Ok y) g h) where
    same : (let o : Result Header Refusal = Ok x in o ≡ Ok y) → x ≡ y
    same e = cc e

  pub has_signature : (b : Body) (x : BodyHead) → IsHeadOf p b x → HasSignature p b (head_signature x)
  has_signature b x h = record { header = head_header x; is = h.header; signature = refl }

  pub signature_is : (b : Body) (x : BodyHead) (s : Signature) → IsHeadOf p b x → HasSignature p b s → s ≡ head_signature x
  signature_is b x s h k = k.signature ∙ ap signature (header_once b k.header (head_header x) k.is h.header)

  pub same_signatures : (b c : Body) (x y : BodyHead) → IsHeadOf p b x → IsHeadOf p c y → SameSignature p b c → head_signature x ≡ head_signature y
  same_signatures b c x y h k s = sym (signature_is b x s.signature h s.one) ∙ signature_is c y s.signature k s.other

  pub signatures_same : (b c : Body) (x y : BodyHead) → IsHeadOf p b x → IsHeadOf p c y → head_signature x ≡ head_signature y → SameSignature p b c
  signatures_same b c x y h k e =
      record { signature = head_signature x; one = has_signature b x h; other = subst (λ (s : Signature). HasSignature p c s) (sym e) (has_signature c y k) }
