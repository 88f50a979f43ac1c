-- What is found by its key is what was looked for.
use Rattle.std.proofs.Common.{◌≡◌, ◌<◌, ◌≤◌, ◌+◌, ℕ, zero, suc, List, [], ◌∷◌, ◌++◌, length, take, map, Option, Some, None, IfSome, slice_get, get_or, sym, subst, ap, ◌∙◌, arith}
use Rattle.std.specs.declared.vec.Vec.{Vec}
use Rattle.std.specs.declared.alloc.Global.{Global}
use Rattle.std.proofs.lemmas.List.{take_all, map-append}
use Rattle.jn_reach.specs.Each.{Each}
use Rattle.jn_reach.proofs.Eachs.{Each-at, Each-back}
use Rattle.jn_base.specs.declared.tree.Name.{Name}
use Rattle.jn_table.specs.declared.class.ClassId.{ClassId}
use Rattle.jn_table.proofs.Maps.{in_list, list_at}
use Rattle.jn_index.specs.Index.{numbers_of, keys_in}
use Rattle.jn_index.proofs.Places.{key_at, thing_at}
use Rattle.jn_share.specs.declared.slots.Slots.{Slots}
use Rattle.jn_share.proofs.Walk.{take_one}
use Rattle.jn_agree.specs.declared.selectors.MethodSel.{MethodSel}
use Rattle.jn_agree.specs.declared.selectors.FieldSel.{FieldSel}
use Rattle.jn_layout.specs.declared.declared.BodyAt.{BodyAt}
use Rattle.jn_layout.specs.declared.declared.FieldAt.{FieldAt}
use Rattle.jn_layout.specs.Keys.{class_key, body_key, field_key, shape_key, sel_key, slot_key}
use Rattle.jn_layout.specs.Lookups.{FoundAt, NoneTo, IsBodyOf, IsFieldOf, SelectsBody, SelectsField}
use Rattle.jn_layout.specs.Selecting.{Selects, IsSame, SelectsOwn, AreFieldSels}
use Rattle.jn_layout.proofs.SelectorLaws.{selects_push, selects_keep}

-- ---- lists of keys

module _ {A : Type 0} (key : A → List ℕ) (xs : List A) where
  pub keys_more : (k : ℕ) (x : A) → k < length xs → x ≡ get_or xs k x → (all after : List (Vec ℕ Global)) (v : Vec ℕ Global) → v.items ≡ key x → after ≡ all ++ v ∷ []
      → keys_in all ≡ map key (take k xs) → keys_in after ≡ map key (take (k + 1) xs)
  keys_more k x l e all after v is f g =
      ap keys_in f ∙ (map-append numbers_of all (v ∷ [])
      ∙ (ap (λ (ks : List (List ℕ)). ks ++ v.items ∷ []) g ∙ (ap (λ (n : List ℕ). map key (take k xs) ++ n ∷ []) is
      ∙ sym (ap (map key) (take_one xs k x l e) ∙ map-append key (take k xs) (x ∷ [])))))

  pub keys_all : (i : ℕ) (all : List (Vec ℕ Global)) → length xs ≤ i → keys_in all ≡ map key (take i xs) → keys_in all ≡ map key xs
  keys_all i all l g = g ∙ ap (map key) (take_all i xs l)

-- ---- what a key says

module _ {A : Type 0} (key : A → List ℕ) (T : A → Type 0) (target : List ℕ) (to : (x : A) → T x → key x ≡ target) (from : (x : A) → key x ≡ target → T x) (xs : List A) where
  pub found_by : (k : ℕ) → slice_get (map key xs) k ≡ Some target → FoundAt T xs k
  found_by k e = let w = thing_at key xs k target e in record { thing = w.0; at = w.1; is = from w.0 w.2 }

  pub none_by : ((k : ℕ) → slice_get (map key xs) k ≡ Some target → ⊥) → NoneTo T xs (length xs)
  none_by none k x l at h = none k (key_at key xs k x at ∙ ap (λ (n : List ℕ). let o : Option (List ℕ) = Some n in o) (to x h))

by_class : (o : Option ClassId) (n : Name) (class : ClassId) (name : Name) → class_key o n ≡ class.0 ∷ name.0 ∷ [] → (o ≡ Some class) × (n ≡ name)
by_class None n class name e = cc e
by_class (Some id) n class name e =
    let a : id.0 ≡ class.0 = cc e in
    let b : n.0 ≡ name.0 = cc e in
    (ap (λ (k : ℕ). let o : Option ClassId = Some (record { 0 = k }) in o) a, ap (λ (k : ℕ). record { 0 = k }) b)

class_by : (o : Option ClassId) (n : Name) (class : ClassId) (name : Name) → o ≡ Some class → n ≡ name → class_key o n ≡ class.0 ∷ name.0 ∷ []
class_by o n class name e f = ap (λ (p : Option ClassId). class_key p n) e ∙ ap (λ (m : Name). class.0 ∷ m.0 ∷ []) f

module _ (class : ClassId) (name : Name) where
  pub body_to : (x : BodyAt) → IsBodyOf class name x → body_key x ≡ class.0 ∷ name.0 ∷ []
  body_to x h = class_by x.class x.name class name h.class_is h.name_is

  pub body_from : (x : BodyAt) → body_key x ≡ class.0 ∷ name.0 ∷ [] → IsBodyOf class name x
  body_from x e = let w = by_class x.class x.name class name e in record { class_is = w.0; name_is = w.1 }

  pub field_to : (x : FieldAt) → IsFieldOf class name x → field_key x ≡ class.0 ∷ name.0 ∷ []
  field_to x h = class_by x.class x.name class name h.class_is h.name_is

  pub field_from : (x : FieldAt) → field_key x ≡ class.0 ∷ name.0 ∷ [] → IsFieldOf class name x
  field_from x e = let w = by_class x.class x.name class name e in record { class_is = w.0; name_is = w.1 }

named : (a b : Name) → a.0 ≡ b.0 → a ≡ b
named a b e = ap (λ (k : ℕ). record { 0 = k }) e

pub shape_to : (x : BodyAt) (s : MethodSel) → SelectsBody x s → shape_key x ≡ sel_key s
shape_to x s h =
    ap (λ (n : Name). n.0 ∷ x.result ∷ x.params.items) (sym h.name)
    ∙ (ap (λ (r : ℕ). s.name.0 ∷ r ∷ x.params.items) (sym h.result) ∙ ap (λ (ks : List ℕ). s.name.0 ∷ s.shape.result ∷ ks) (sym h.params))

pub shape_from : (x : BodyAt) (s : MethodSel) → shape_key x ≡ sel_key s → SelectsBody x s
shape_from x s e =
    let a : x.name.0 ≡ s.name.0 = cc e in
    let b : x.result ≡ s.shape.result = cc e in
    let d : x.params.items ≡ s.shape.params = cc e in
    record { name = named s.name x.name (sym a); params = sym d; result = sym b }

pub slot_to : (name : Name) (kind : ℕ) (s : FieldSel) → SelectsField name kind s → slot_key s ≡ name.0 ∷ kind ∷ []
slot_to name kind s h = ap (λ (n : Name). n.0 ∷ s.kind ∷ []) h.name_is ∙ ap (λ (k : ℕ). name.0 ∷ k ∷ []) h.kind_is

pub slot_from : (name : Name) (kind : ℕ) (s : FieldSel) → slot_key s ≡ name.0 ∷ kind ∷ [] → SelectsField name kind s
slot_from name kind s e =
    let a : s.name.0 ≡ name.0 = cc e in
    let b : s.kind ≡ kind = cc e in
    record { name_is = named s.name name a; kind_is = b }

pub same_to : (x s : FieldSel) → IsSame x s → slot_key x ≡ slot_key s
same_to x s e = ap slot_key e

pub same_from : (x s : FieldSel) → slot_key x ≡ slot_key s → IsSame x s
same_from x s e =
    let a : x.name.0 ≡ s.name.0 = cc e in
    let b : x.kind ≡ s.kind = cc e in
    ap (λ (n : Name). record { name = n; kind = x.kind }) (named x.name s.name a) ∙ ap (λ (k : ℕ). record { name = s.name; kind = k }) b

pub some_by : {P Q : ℕ → Type 0} (o : Option ℕ) → ((k : ℕ) → P k → Q k) → IfSome o P → IfSome o Q
some_by None f h = tt
some_by (Some k) f h = f k h

-- ---- each once

take_at : {A : Type 0} (xs : List A) (k j : ℕ) (y : A) → slice_get (take k xs) j ≡ Some y → (j < k) × (slice_get xs j ≡ Some y)
take_at [] zero j y e = cc e
take_at [] (suc k) j y e = cc e
take_at (x ∷ xs) zero j y e = cc e
take_at (x ∷ xs) (suc k) zero y e = (omega arith, e)
take_at (x ∷ xs) (suc k) (suc j) y e = let w = take_at xs k j y e in (omega (arith, w.0), w.1)

at_take : {A : Type 0} (xs : List A) (k j : ℕ) (y : A) → j < k → slice_get xs j ≡ Some y → slice_get (take k xs) j ≡ Some y
at_take [] k j y l e = cc e
at_take (x ∷ xs) zero j y l e = absurd (omega (arith, l))
at_take (x ∷ xs) (suc k) zero y l e = e
at_take (x ∷ xs) (suc k) (suc j) y l e = at_take xs k j y (omega (arith, l)) e

module _ {A B : Type 0} (Q : A → B → Type 0) (key : A → List ℕ) (other : B → List ℕ) (to : (x : A) (s : B) → Q x s → key x ≡ other s)
    (from : (x : A) (s : B) → key x ≡ other s → Q x s) (xs : List A) (k : ℕ) (x : A) (l : k < length xs) (e : x ≡ get_or xs k x) (sels : List B) (g : Selects Q (take k xs) sels) where
  pub first_more : (after : List B) (s : B) → after ≡ sels ++ s ∷ [] → Q x s → ((j : ℕ) → j < k → slice_get (map key xs) j ≡ Some (key x) → ⊥) → Selects Q (take (k + 1) xs) after
  first_more after s f q none = selects_push Q (Q x) (take k xs) (take (k + 1) xs) x sels after s (take_one xs k x l e) f unseen q q g where
    unseen : NoneTo (Q x) sels (length sels)
    unseen i b m at h =
        let r = g.sound b (in_list sels i b at) in
        let p = list_at (take k xs) r.0 r.1 in
        let t = take_at xs k p.0 r.0 p.1 in
        none p.0 t.0 (key_at key xs p.0 r.0 t.1 ∙ ap (λ (n : List ℕ). let o : Option (List ℕ) = Some n in o) (to r.0 b r.2 ∙ sym (to x b h)))

  pub again : (j : ℕ) → j < k → slice_get (map key xs) j ≡ Some (key x) → Selects Q (take (k + 1) xs) sels
  again j m h =
      let y = thing_at key xs j (key x) h in
      let s = g.has y.0 (in_list (take k xs) j y.0 (at_take xs k j y.0 m y.1)) in
      let p = list_at sels s.0 s.1 in
      selects_keep Q (Q x) (take k xs) (take (k + 1) xs) x sels p.0 (take_one xs k x l e)
      (record { thing = s.0; at = p.1; is = from x s.0 (sym y.2 ∙ to y.0 s.0 s.2) }) (λ b d. d) g

-- of each field its own selector, and these each once
pub own_selects : (s : Slots) (fields : List FieldAt) (own all : List FieldSel) → Each (SelectsOwn s) fields own → Selects IsSame own all → AreFieldSels s fields all
own_selects s fields own all are g = record {
  sound = λ b c.
      let r = g.sound b c in
      let i = list_at own r.0 r.1 in
      let w = Each-back (SelectsOwn s) are i.0 r.0 i.1 in
      (w.0, in_list fields i.0 w.0 w.1, subst (SelectsOwn s w.0) r.2 w.2);
  has = λ y c.
      let i = list_at fields y c in
      let w = Each-at (SelectsOwn s) are i.0 y i.1 in
      let r = g.has w.0 (in_list own i.0 w.0 w.1) in
      (r.0, r.1, subst (SelectsOwn s y) r.2 w.2);
  once = g.once;
}
