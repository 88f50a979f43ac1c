-- The masks without a field's, those of two ends, and the binds of a scope with them.
use Rattle.std.proofs.Common.{◌≡◌, ◌<◌, ◌≤◌, ◌+◌, ◌^◌, ◌&&◌, ℕ, List, [], ◌∷◌, ◌++◌, length, take, drop, map, reverse, get_or, slice_get, Bool, true, false, cond, nat_eq, Some, All, refl, sym, ap, ◌∙◌, subst, ◌↔◌, inl, inr, arith, eqb-true, zero, suc, bit_or, Result, Ok, Err, IfOk}
use Rattle.std.proofs.lemmas.Bool.{cases_lt}
use Rattle.std.proofs.lemmas.Option.{slice_get-get_or, slice_get_within}
use Rattle.std.proofs.lemmas.List.{reverse-append, map-append, take-append-drop}
use Rattle.std.proofs.lemmas.List.Elements.{All-append, All-cons, All-nil, All-head, All-tail}
use Rattle.jn_reach.proofs.Searches.{same_some}
use Rattle.jn_base.specs.declared.tree.Name.{Name}
use Rattle.jn_base.specs.declared.tree.Program.{Program}
use Rattle.jn_base.specs.declared.types.Masks.{Masks}
use Rattle.jn_base.specs.declared.types.Ty.{Ty}
use Rattle.jn_base.specs.declared.types.Ty.TheVariants as ty
use Rattle.jn_base.specs.Atoms.{HasMask, MasksOf, first, later}
use Rattle.jn_base.specs.Scopes.{Bind, Scope, Binds}
use Rattle.jn_base.specs.Fits.{BindsFit}
use Rattle.jn_base.specs.Resolve.{is_class}
use Rattle.jn_intern.specs.declared.scope.Bind.{Bind as NumberBind}
use Rattle.jn_intern.specs.declared.pool.TyId.{TyId}
use Rattle.jn_intern.specs.Pools.{InPool, Keeps, shown, bind_in}
use Rattle.jn_intern.proofs.Pools.{keeps_same, keeps_more}
use Rattle.jn_subtype.specs.Binds.{binds_in}
use Rattle.jn_rules.specs.Plans.{EitherMasks, ask, done}
use Rattle.jn_rules.specs.Questions.{masks_of, KeptMask, InEither, Notes}
use Rattle.jn_rules.specs.Stmts.{remasked, with_masks, joined_type, joined}
use Rattle.jn_rules.proofs.PlanLaws.{then_notes}
use Rattle.jn_expr.proofs.Scopes.{one_more, next_front, whole_front}
use Rattle.jn_expr.specs.Passing.{Shows}
use Rattle.jn_masks.proofs.Bits.{joined as joined_of, joined_words}
use Rattle.jn_check.specs.Masks.{IsWithoutAt, remasked_bind, TypeJoins}

-- ---- the masks without a field's

-- of the masks below i those of the field are gone
abbrev pub KeptBelow : List Name → Masks → Name → ℕ → Masks → Type 0
KeptBelow names m f i r = (j : ℕ) → HasMask r j ↔ (HasMask m j × (j < i → slice_get names j ≡ Some f → ⊥))

pub kept_start : (names : List Name) (m : Masks) (f : Name) → KeptBelow names m f 0 m
kept_start names m f j = (λ h. (h, λ l e. absurd (omega (arith, l))), λ h. h.0)

module _ (names : List Name) (m : Masks) (f : Name) (i : ℕ) where
  name_at : (d : Name) → i < length names → slice_get names i ≡ Some (get_or names i d)
  name_at d l = slice_get-get_or names i d l

  pub kept_next : (d : Name) (kept r : Masks) → i < length names → KeptBelow names m f i kept → IsWithoutAt kept i (get_or names i d) f r → KeptBelow names m f (i + 1) r
  kept_next d kept r l so step j = (there, back) where
    there : HasMask r j → HasMask m j × (j < i + 1 → slice_get names j ≡ Some f → ⊥)
    there h =
        let s = (step j).0 h in
        let k = (so j).0 s.0 in (
          k.0,
          λ b e. elim (cases_lt j i) [
            | inl w ↦ k.1 w e
            | inr w ↦
                let same : j ≡ i = omega (arith, w, b) in
                s.1 same (same_some (slice_get names i) (get_or names i d) f (name_at d l) (subst (λ (n : ℕ). slice_get names n ≡ Some f) same e))
          ],
        )

    back : HasMask m j × (j < i + 1 → slice_get names j ≡ Some f → ⊥) → HasMask r j
    back h = (step j).1 (
      (so j).1 (h.0, λ w e. h.1 (omega (arith, w)) e),
      λ same n. h.1 (omega (arith, same)) (subst (λ (k : ℕ). slice_get names k ≡ Some f) (sym same) (name_at d l ∙ ap Some n)),
    )

  pub kept_all : (kept : Masks) → length names ≤ i → KeptBelow names m f i kept → (j : ℕ) → HasMask kept j ↔ KeptMask names m f j
  kept_all kept l so j = (
    λ h. let k = (so j).0 h in (k.0, λ e. k.1 (let w = slice_get_within names j f e in omega (arith, w, l)) e),
    λ h. (so j).1 (h.0, λ w e. h.1 e),
  )

-- ---- types at two ends

pub remasked_own : (t : Ty) → remasked (masks_of t) t ≡ t
remasked_own (ty.Class xs m) = refl
remasked_own ty.Int = refl
remasked_own ty.Bool = refl
remasked_own ty.Null = refl
remasked_own ty.Void = refl

both_true : (a b : Bool) → a ≡ true → b ≡ true → (a && b) ≡ true
both_true true true e f = refl
both_true true false e f = f
both_true false b e f = cc

module _ (p : Program) (t u : Ty) where
  pub class_joins : (v : Ty) (m : Masks) → is_class t ≡ true → is_class u ≡ true → MasksOf (InEither (masks_of t) (masks_of u)) m → v ≡ remasked m t → TypeJoins p t u v
  class_joins v m c d k e = at (is_class t && is_class u) (both_true (is_class t) (is_class u) c d) where
    at : (b : Bool) → b ≡ true → Notes p (cond b (ask (EitherMasks (masks_of t) (masks_of u)) (λ m. done (remasked m t))) (done t)) [] v
    at true h = (m, k, (refl, e))
    at false h = cc

  pub other_joins : (v : Ty) → (is_class t && is_class u) ≡ false → v ≡ t → TypeJoins p t u v
  other_joins v h e = at (is_class t && is_class u) h where
    at : (b : Bool) → b ≡ false → Notes p (cond b (ask (EitherMasks (masks_of t) (masks_of u)) (λ m. done (remasked m t))) (done t)) [] v
    at true h = cc
    at false h = (refl, e)

-- the same masks are those of both
pub either_same : (m n : Masks) → m ≡ n → length m.0 ≡ 4 → All (λ w. w < 2 ^ 64) m.0 → MasksOf (InEither m n) m
either_same m n e words wide = record {
  words = words;
  wide = wide;
  each = λ i l. (λ h. inl h, λ h. elim h [ inl k ↦ k | inr k ↦ subst (λ (x : Masks). HasMask x i) (sym e) k ]);
}

module _ (p : Program) (t u : Ty) (m n : Masks) (c : is_class t ≡ true) (d : is_class u ≡ true) (e : m ≡ masks_of t) (f : n ≡ masks_of u) where
  of_both : (k : Masks) → MasksOf (InEither m n) k → MasksOf (InEither (masks_of t) (masks_of u)) k
  of_both k h = subst (λ (x : Masks). MasksOf (InEither x (masks_of u)) k) e (subst (λ (y : Masks). MasksOf (InEither m y) k) f h)

  pub both_class : (k : Masks) → MasksOf (InEither m n) k → (v : Ty) → v ≡ remasked k t → TypeJoins p t u v
  both_class k h v is = class_joins p t u v k c d (of_both k h) is

  -- where the masks of both are those of the first
  pub same_class : (k : Masks) → MasksOf (InEither m n) k → m ≡ k → TypeJoins p t u t
  same_class k h same = both_class k h t (sym (ap (λ (x : Masks). remasked x t) (sym same ∙ e) ∙ remasked_own t))

pub both_shown : {E : Type 0} (t u : Ty) (m n : Masks) → is_class t ≡ true → is_class u ≡ true → m ≡ masks_of t → n ≡ masks_of u → (k : Masks) → MasksOf (InEither m n) k
    → (pool : List Ty) (r : Result TyId E) → IfOk r (λ v. Shows pool v (remasked k t)) → IfOk r (λ v. (p : Program) → TypeJoins p t u (shown pool v))
both_shown t u m n c d e f k has pool (Ok v) h = λ p. both_class p t u m n c d e f k has (shown pool v) h.shows
both_shown t u m n c d e f k has pool (Err x) h = tt

-- the masks of both, word by word
module _ (m n : Masks) (a b c d : ℕ) (ea : a ≡ bit_or (get_or m.0 0 0) (get_or n.0 0 0)) (eb : b ≡ bit_or (get_or m.0 1 0) (get_or n.0 1 0)) (ec : c ≡ bit_or (get_or m.0 2 0) (get_or n.0 2 0))
    (ed : d ≡ bit_or (get_or m.0 3 0) (get_or n.0 3 0)) (la : a < 2 ^ 64) (lb : b < 2 ^ 64) (lc : c < 2 ^ 64) (ld : d < 2 ^ 64) where
  wide_words : (k e : ℕ) → k < 4 → get_or (a ∷ b ∷ c ∷ d ∷ []) k e < 2 ^ 64
  wide_words zero e h = la
  wide_words (suc zero) e h = lb
  wide_words (suc (suc zero)) e h = lc
  wide_words (suc (suc (suc zero))) e h = ld
  wide_words (suc (suc (suc (suc k)))) e h = absurd (omega arith)

  same_words : joined_words m.0 n.0 ≡ a ∷ b ∷ c ∷ d ∷ []
  same_words =
      sym (ap (λ (x : ℕ). x ∷ b ∷ c ∷ d ∷ []) ea
      ∙ (ap (λ (x : ℕ). bit_or (get_or m.0 0 0) (get_or n.0 0 0) ∷ x ∷ c ∷ d ∷ []) eb
      ∙ (ap (λ (x : ℕ). bit_or (get_or m.0 0 0) (get_or n.0 0 0) ∷ bit_or (get_or m.0 1 0) (get_or n.0 1 0) ∷ x ∷ d ∷ []) ec
      ∙ ap (λ (x : ℕ). bit_or (get_or m.0 0 0) (get_or n.0 0 0) ∷ bit_or (get_or m.0 1 0) (get_or n.0 1 0) ∷ bit_or (get_or m.0 2 0) (get_or n.0 2 0) ∷ x ∷ []) ed)))

  pub both_words : length m.0 ≡ 4 → length n.0 ≡ 4 → MasksOf (InEither m n) (record { 0 = a ∷ b ∷ c ∷ d ∷ [] })
  both_words lm ln = record {
    words = refl;
    wide = wide_words;
    each = λ j l. subst (λ (ws : List ℕ). (let r : Masks = record { 0 = ws } in HasMask r j) ↔ InEither m n j) same_words (joined_of m.0 n.0 j lm ln);
  }

-- ---- the binds of a scope with other masks

unbound : (s : Scope) (q : ℕ) (m : Masks) → (Binds s q → ⊥) → with_masks s q m ≡ s
unbound [] q m free = refl
unbound (b ∷ s) q m free = at (unbound s q m (λ k. free (record { bind = k.bind; among = later k.among; is = k.is }))) (nat_eq q b.path) refl where
  at : with_masks s q m ≡ s → (t : Bool) → nat_eq q b.path ≡ t → cond t (record b { ty = remasked m b.ty } ∷ s) (b ∷ with_masks s q m) ≡ b ∷ s
  at rest true e = absurd (free (record { bind = b; among = first; is = sym (eqb-true q b.path e) }))
  at rest false e = ap (λ (x : Scope). b ∷ x) rest

with_one : (b : Bind) (s : Scope) (q : ℕ) (m : Masks) → (Binds s b.path → ⊥) → with_masks (b ∷ s) q m ≡ remasked_bind q m b ∷ with_masks s q m
with_one b s q m free = at (nat_eq q b.path) refl where
  at : (t : Bool) → nat_eq q b.path ≡ t
      → cond t (record b { ty = remasked m b.ty } ∷ s) (b ∷ with_masks s q m) ≡ cond t (record b { ty = remasked m b.ty }) b ∷ with_masks s q m
  at true e = ap (λ (x : Scope). record b { ty = remasked m b.ty } ∷ x) (sym (unbound s q m (subst (λ (k : ℕ). Binds s k → ⊥) (sym (eqb-true q b.path e)) free)))
  at false e = refl

pub fit_rest : (a s : Scope) → BindsFit (a ++ s) → BindsFit s
fit_rest [] s h = h
fit_rest (b ∷ a) s h = fit_rest a s h.0

front_fits : (pool : List Ty) (xs : List NumberBind) (i : ℕ) → BindsFit (binds_in pool xs) → BindsFit (binds_in pool (take i xs))
front_fits pool xs i h =
    fit_rest (reverse (map (bind_in pool) (drop i xs))) (binds_in pool (take i xs))
    (subst BindsFit
    (ap (λ (ys : List NumberBind). binds_in pool ys) (sym (take-append-drop i xs))
    ∙ (ap reverse (map-append (bind_in pool) (take i xs) (drop i xs))
    ∙ reverse-append (map (bind_in pool) (take i xs)) (map (bind_in pool) (drop i xs))))
    h)

-- ---- binds that are made one by one

-- what stands in a list doesn't ask what would stand behind its end
pub item_at : {A : Type 0} (xs : List A) (i : ℕ) (z : A) → i < length xs → get_or xs i z ≡ get_or xs i (get_or xs i z)
item_at xs i z l = same_some (slice_get xs i) (get_or xs i z) (get_or xs i (get_or xs i z)) (slice_get-get_or xs i z l) (slice_get-get_or xs i (get_or xs i z) l)

pub binds_stay : {old new : List Ty} → Keeps old new → (bs : List NumberBind) → All (λ (b : NumberBind). InPool old b.ty) bs → map (bind_in new) bs ≡ map (bind_in old) bs
binds_stay g [] h = refl
binds_stay {old} {new} g (c ∷ cs) h =
    let bound_to : Ty → Bind = λ t. record { path = c.path; ty = t } in
    ap (λ (t : Ty). bound_to t ∷ map (bind_in new) cs) (g.shows c.ty (All-head (λ (b : NumberBind). InPool old b.ty) c cs h))
    ∙ ap (λ (ds : Scope). bind_in old c ∷ ds) (binds_stay g cs (All-tail (λ (b : NumberBind). InPool old b.ty) c cs h))

pub all_keep : {old new : List Ty} → Keeps old new → (bs : List NumberBind) → All (λ (b : NumberBind). InPool old b.ty) bs → All (λ (b : NumberBind). InPool new b.ty) bs
all_keep g bs h = λ k d l. g.has (get_or bs k d).ty (h k d l)

module _ (now next : List Ty) (all made : List NumberBind) (one : NumberBind) (keeps : Keeps now next) (known : All (λ (b : NumberBind). InPool now b.ty) all)
    (made_is : made ≡ all ++ one ∷ []) where
  pub pushed_is : binds_in next made ≡ bind_in next one ∷ binds_in now all
  pushed_is =
      ap (λ (bs : List NumberBind). binds_in next bs) made_is
      ∙ (one_more next all one ∙ ap (λ (s : Scope). bind_in next one ∷ s) (ap reverse (binds_stay keeps all known)))

  pub pushed_known : InPool next one.ty → All (λ (b : NumberBind). InPool next b.ty) made
  pushed_known has =
      subst (All (λ (b : NumberBind). InPool next b.ty)) (sym made_is)
      (All-append (λ (b : NumberBind). InPool next b.ty) all (one ∷ []) (all_keep keeps all known)
      (All-cons (λ (b : NumberBind). InPool next b.ty) one [] has (All-nil (λ (b : NumberBind). InPool next b.ty))))

-- the binds before i have these masks where they are that of q
pub record WithSoFar (old now : List Ty) (binds : List NumberBind) (q : ℕ) (m : Masks) (i : ℕ) (all : List NumberBind) : Type 0 where
  pub is : binds_in now all ≡ with_masks (binds_in old (take i binds)) q m
  pub known : All (λ (b : NumberBind). InPool now b.ty) all
  pub keeps : Keeps old now

pub with_start : (pool : List Ty) (binds : List NumberBind) (q : ℕ) (m : Masks) (all : List NumberBind) → all ≡ [] → WithSoFar pool pool binds q m 0 all
with_start pool binds q m all e = record {
  is = ap (λ (bs : List NumberBind). binds_in pool bs) e;
  known = subst (All (λ (b : NumberBind). InPool pool b.ty)) (sym e) (All-nil (λ (b : NumberBind). InPool pool b.ty));
  keeps = keeps_same pool;
}

module _ (old now next : List Ty) (binds : List NumberBind) (i : ℕ) (b : NumberBind) (l : i < length binds) (at : b ≡ get_or binds i b) (has : All (λ (c : NumberBind). InPool old c.ty) binds) (k : Keeps old now) where
  has_it : InPool old b.ty
  has_it = subst (λ (c : NumberBind). InPool old c.ty) (sym at) (has i b l)

  pub in_now : InPool now b.ty
  in_now = k.has b.ty has_it

  same_bind : bind_in now b ≡ bind_in old b
  same_bind = let bound_to : Ty → Bind = λ t. record { path = b.path; ty = t } in ap bound_to (k.shows b.ty has_it)

  pub with_more : (q : ℕ) (m : Masks) (all made : List NumberBind) (one : NumberBind) → BindsFit (binds_in old binds) → WithSoFar old now binds q m i all → Keeps now next
      → bind_in next one ≡ remasked_bind q m (bind_in now b) → InPool next one.ty → made ≡ all ++ one ∷ [] → WithSoFar old next binds q m (i + 1) made
  with_more q m all made one fits so g e known made_is =
      let f : BindsFit (bind_in old b ∷ binds_in old (take i binds)) = subst BindsFit (next_front old binds i b l at) (front_fits old binds (i + 1) fits) in record {
        is = pushed_is now next all made one g so.known made_is
            ∙ (ap (λ (c : Bind). c ∷ binds_in now all) (e ∙ ap (remasked_bind q m) same_bind)
            ∙ (ap (λ (s : Scope). remasked_bind q m (bind_in old b) ∷ s) so.is
            ∙ (sym (with_one (bind_in old b) (binds_in old (take i binds)) q m f.1)
            ∙ ap (λ (s : Scope). with_masks s q m) (sym (next_front old binds i b l at)))));
        known = pushed_known now next all made one g so.known made_is known;
        keeps = keeps_more so.keeps g;
      }

pub with_all : (old now : List Ty) (binds : List NumberBind) (q : ℕ) (m : Masks) (i : ℕ) (all : List NumberBind) → length binds ≤ i → WithSoFar old now binds q m i all
    → binds_in now all ≡ with_masks (binds_in old binds) q m
with_all old now binds q m i all l so = so.is ∙ ap (λ (s : Scope). with_masks s q m) (whole_front old binds i l)

-- the binds before i at two ends are joined
pub record JoinsSoFar (old now : List Ty) (one other : List NumberBind) (i : ℕ) (all : List NumberBind) : Type 0 where
  pub is : (p : Program) → Notes p (joined (binds_in old (take i one)) (binds_in old (take i other))) [] (binds_in now all)
  pub known : All (λ (b : NumberBind). InPool now b.ty) all
  pub keeps : Keeps old now

pub joins_start : (pool : List Ty) (one other : List NumberBind) (all : List NumberBind) → all ≡ [] → JoinsSoFar pool pool one other 0 all
joins_start pool one other all e = record {
  is = λ p. (refl, ap (λ (bs : List NumberBind). binds_in pool bs) e);
  known = subst (All (λ (b : NumberBind). InPool pool b.ty)) (sym e) (All-nil (λ (b : NumberBind). InPool pool b.ty));
  keeps = keeps_same pool;
}

joined_more : (p : Program) (b c : Bind) (s t v : Scope) (u : Ty) → Notes p (joined_type b.ty c.ty) [] u → Notes p (joined s t) [] v → Notes p (joined (b ∷ s) (c ∷ t)) [] (record b { ty = u } ∷ v)
joined_more p b c s t v u h k =
    then_notes p (joined_type b.ty c.ty) _ [] [] u _ h (then_notes p (joined s t) (λ w. done (record b { ty = u } ∷ w)) [] [] v _ k (refl, refl))

pub joins_more : (old now next : List Ty) (one other all made : List NumberBind) (i : ℕ) (b c d : NumberBind) → i < length one → i < length other → b ≡ get_or one i b → c ≡ get_or other i c
    → All (λ (x : NumberBind). InPool old x.ty) one → All (λ (x : NumberBind). InPool old x.ty) other → JoinsSoFar old now one other i all → Keeps now next
    → ((p : Program) → TypeJoins p (shown now b.ty) (shown now c.ty) (shown next d.ty)) → d.path ≡ b.path → InPool next d.ty → made ≡ all ++ d ∷ []
    → JoinsSoFar old next one other (i + 1) made
joins_more old now next one other all made i b c d l j at bt has hat so g e path known made_is = record {
  is = λ p. subst (λ (v : Scope). Notes p (joined (binds_in old (take (i + 1) one)) (binds_in old (take (i + 1) other))) [] v) (sym made_as)
      (subst (λ (s : Scope). Notes p (joined s (binds_in old (take (i + 1) other))) [] (record (bind_in old b) { ty = shown next d.ty } ∷ binds_in now all)) (sym (next_front old one i b l at))
      (subst (λ (t : Scope). Notes p (joined (bind_in old b ∷ binds_in old (take i one)) t) [] (record (bind_in old b) { ty = shown next d.ty } ∷ binds_in now all)) (sym (next_front old other i c j bt))
      (joined_more p (bind_in old b) (bind_in old c) (binds_in old (take i one)) (binds_in old (take i other)) (binds_in now all) (shown next d.ty) (as_old p (e p)) (so.is p))));
  known = pushed_known now next all made d g so.known made_is known;
  keeps = keeps_more so.keeps g;
} where
  has_b : InPool old b.ty
  has_b = subst (λ (x : NumberBind). InPool old x.ty) (sym at) (has i b l)

  has_c : InPool old c.ty
  has_c = subst (λ (x : NumberBind). InPool old x.ty) (sym bt) (hat i c j)

  as_old : (p : Program) → TypeJoins p (shown now b.ty) (shown now c.ty) (shown next d.ty) → TypeJoins p (shown old b.ty) (shown old c.ty) (shown next d.ty)
  as_old p h =
      subst (λ (t : Ty). TypeJoins p t (shown old c.ty) (shown next d.ty)) (so.keeps.shows b.ty has_b)
      (subst (λ (t : Ty). TypeJoins p (shown now b.ty) t (shown next d.ty)) (so.keeps.shows c.ty has_c) h)

  made_as : binds_in next made ≡ record (bind_in old b) { ty = shown next d.ty } ∷ binds_in now all
  made_as = pushed_is now next all made d g so.known made_is
      ∙ ap (λ (q : ℕ). let x : Bind = record { path = q; ty = shown next d.ty } in x ∷ binds_in now all) path

-- where both stand at i
pub joins_next : (old now next : List Ty) (one other all made : List NumberBind) (i : ℕ) (z : NumberBind) (id : TyId) → i < length one → i < length other
    → All (λ (x : NumberBind). InPool old x.ty) one → All (λ (x : NumberBind). InPool old x.ty) other → JoinsSoFar old now one other i all → Keeps now next
    → ((p : Program) → TypeJoins p (shown now (get_or one i z).ty) (shown now (get_or other i z).ty) (shown next id)) → InPool next id
    → (let d : NumberBind = record { path = (get_or one i z).path; ty = id } in made ≡ all ++ d ∷ []) → JoinsSoFar old next one other (i + 1) made
joins_next old now next one other all made i z id l j has hat so g e known made_is =
    joins_more old now next one other all made i (get_or one i z) (get_or other i z) (record { path = (get_or one i z).path; ty = id }) l j (item_at one i z l) (item_at other i z j) has hat so g e
    refl known made_is

pub joins_all : (old now : List Ty) (one other all : List NumberBind) (i : ℕ) (p : Program) → length one ≤ i → length other ≤ i → JoinsSoFar old now one other i all
    → Notes p (joined (binds_in old one) (binds_in old other)) [] (binds_in now all)
joins_all old now one other all i p l j so =
    subst (λ (s : Scope). Notes p (joined s (binds_in old other)) [] (binds_in now all)) (whole_front old one i l)
    (subst (λ (t : Scope). Notes p (joined (binds_in old (take i one)) t) [] (binds_in now all)) (whole_front old other i j) (so.is p))
