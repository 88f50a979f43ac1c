-- A continuation under fewer charges, more instructions, another typing, fewer variables; and one act before it.
use Rattle.std.proofs.Common.{◌≡◌, ◌≤◌, ℕ, zero, suc, ◌+◌, List, [], ◌∷◌, length, Option, Some, None, refl, sym, ap, ◌∙◌, subst, arith}
use Rattle.std.specs.Prelude.{ℤ, take, slice_get}
use Rattle.std.proofs.lemmas.List.{take-take}
use Rattle.jn_base.specs.declared.tree.Program.{Program}
use Rattle.jn_base.specs.declared.names.Var.{Var}
use Rattle.jn_base.specs.Atoms.{Among, first, later}
use Rattle.jn_base.specs.Scopes.{Scope}
use Rattle.jn_base.specs.Fits.{BindsFit, TypeFits}
use Rattle.jn_code.specs.declared.image.Image.{Image}
use Rattle.jn_code.specs.declared.image.Code.{Code}
use Rattle.jn_sem.specs.Acts.{Act, Todo, todo}
use Rattle.jn_sem.specs.State.{Frame, Variable, declared_vars}
use Rattle.jn_rules.specs.Headers.{Header}
use Rattle.jn_base.specs.declared.tree.Method.{Method}
use Rattle.jn_base.specs.declared.types.Ty.{Ty}
use Rattle.jn_sem.specs.Sets.{no_views}
use Rattle.jn_sound.proofs.Known.{stands_settle}
use Rattle.jn_sound.specs.Takes.{Opd, opd, Typing, typing, Moves, same, unseen}
use Rattle.jn_sound.specs.Fit.{Narrowed}
use Rattle.jn_sound.specs.KnownScopes.{Covers}
use Rattle.jn_sound.proofs.Ways.{surely, and_so}
use Rattle.jn_sound.proofs.Steps.{standing_narrows}
use Rattle.jn_sound.specs.Tree.{Fresher, none as fresh_none, more as fresh_more}
use Rattle.jn_agree.specs.Naming.{Naming}
use Rattle.jn_agree.specs.Matches.{World}
use Rattle.jn_agree.specs.Places.{At}
use Rattle.jn_code.specs.declared.instr.Instr.TheVariants as ins
use Rattle.jn_link_laws.proofs.Link.{fewer}
use Rattle.jn_node_laws.specs.Cont.{Layout, Placed, active, trimmed}
use Rattle.jn_node_laws.proofs.Quiet.{spare}
use Rattle.jn_node_laws.proofs.Quiet.{later as behind}
use Rattle.jn_node_laws.proofs.Nodes as nodes
use Rattle.jn_place_laws.specs.Contexts.{Context, context, Stood, known, site_at}
use Rattle.jn_place_laws.specs.LawsOfContexts.{ActLeads, ActsLead}
use Rattle.jn_place_laws.proofs.Going.{GoOn}

declared_take : (n : ℕ) (xs : List Variable) → declared_vars (take n xs) ≡ take n (declared_vars xs)
declared_take zero xs = refl
declared_take (suc n) [] = refl
declared_take (suc n) (x ∷ xs) = ap (λ (l : List Var). x.var ∷ l) (declared_take n xs)

among_take : (n : ℕ) (xs : List Variable) (y : Variable) → Among (take n xs) y → Among xs y
among_take zero xs y a = elim a [ ]
among_take (suc n) [] y a = elim a [ ]
among_take (suc n) (x ∷ xs) _ first = first
among_take (suc n) (x ∷ xs) y (later a) = later (among_take n xs y a)

short : {A : Type 0} (n : ℕ) (xs : List A) → length (take n xs) ≤ length xs
short zero xs = omega arith
short (suc n) [] = omega arith
short (suc n) (x ∷ xs) = let s = short n xs in omega (arith, s)

module _ (p : Program) (i : Image) (n : Naming) (m : ℕ) (code : ℕ) (it : Code) (there : slice_get i.codes code ≡ Some it)
    (r : Frame) (hd : Header) where
  abbrev G : Layout → ℕ → List Var → Typing → List Todo → ℕ → ℕ → Type 0
  G = GoOn p i n m code it r hd

  pub less : (l : Layout) (b : ℕ) (vs : List Var) (t : Typing) (k : List Todo) (s w : ℕ) → G l (suc b) vs t k s w
      → G l b vs t k s w
  less l b vs t k s w g = record {
    by = λ f x a lv vals keeps e placed ma st. fewer p i n m 0 (known p) r b f.todo f x
        (active code s lv vals keeps) a w (g.by f x a lv vals keeps e placed ma st);
  }

  pub more : (l : Layout) (b : ℕ) (vs : List Var) (t : Typing) (k : List Todo) (s v w : ℕ) → v ≤ w
      → G l b vs t k s v → G l b vs t k s w
  more l b vs t k s v w le g = record {
    by = λ f x a lv vals keeps e placed ma st. spare p i n m (known p) r b f.todo f x
        (active code s lv vals keeps) a v w le (g.by f x a lv vals keeps e placed ma st);
  }

  pub at_place : (l : Layout) (b : ℕ) (vs : List Var) (t : Typing) (k : List Todo) (s e w : ℕ) → e ≡ s
      → G l b vs t k e w → G l b vs t k s w
  at_place l b vs t k s e w is g = subst (λ (x : ℕ). G l b vs t k x w) is g

  pub as_typed : (l : Layout) (b : ℕ) (vs : List Var) (t u : Typing) (k : List Todo) (s w : ℕ) → u ≡ t
      → G l b vs u k s w → G l b vs t k s w
  as_typed l b vs t u k s w is g = subst (λ (x : Typing). G l b vs x k s w) is g

  pub as_todo : (l : Layout) (b : ℕ) (vs : List Var) (t : Typing) (k j : List Todo) (s w : ℕ) → k ≡ j
      → G l b vs t j s w → G l b vs t k s w
  as_todo l b vs t k j s w is g = subst (λ (x : List Todo). G l b vs t x s w) (sym is) g

  pub as_laid : (l j : Layout) (b : ℕ) (vs : List Var) (t : Typing) (k : List Todo) (s w : ℕ) → j ≡ l
      → G j b vs t k s w → G l b vs t k s w
  as_laid l j b vs t k s w is g = subst (λ (x : Layout). G x b vs t k s w) is g

  -- a jump that was paid for before
  pub jumped : (l : Layout) (b : ℕ) (vs : List Var) (t : Typing) (k : List Todo) (s e w : ℕ)
      → At it.instrs s (ins.Jump e) → G l b vs t k e w → G l b vs t k s (suc w)
  jumped l b vs t k s e w at g = record {
    by = λ f x a lv vals keeps is placed ma st.
        behind p i n m (known p) r b f.todo f x (active code s lv vals keeps) (active code e lv vals keeps) a w
        (nodes.moved p i n m (known p) Context (Stood p r hd) code it there r s (ins.Jump e) lv vals a keeps at)
        (g.by f x a lv vals keeps is placed ma st);
  }

  -- an act with a rule, by its node, whose instructions are from s up to q
  pub step : (l j : Layout) (b : ℕ) (vs us : List Var) (act : Act) (t z : Typing) (k : List Todo) (s e q v w : ℕ)
      → (ActLeads p i n m code it r hd vs act k (context vs t) (context us z) → G j b us z k q (20 + w)
      → G l (suc b) vs t (todo (length vs) act ∷ k) s w)
      → ActLeads p i n m code it r hd vs act k (context vs t) (context us z) → e ≡ q → v ≤ 20 + w
      → G j b us z k e v → G l b vs t (todo (length vs) act ∷ k) s w
  step l j b vs us act t z k s e q v w node leads end le g =
      less l b vs t (todo (length vs) act ∷ k) s w
      (node leads (more j b us z k q v (20 + w) le (at_place j b us z k q e v end g)))

  module _ (leads : ActsLead p i n m code it r hd) where
    -- where nothing acts
    pub moved : (l : Layout) (b : ℕ) (vs : List Var) (t z : Typing) (k : List Todo) (s w : ℕ) → Moves p t z
        → G l b vs z k s w → G l b vs t k s w
    moved l b vs t z k s w c g = record {
      by = λ f x a lv vals keeps e placed ma st.
          g.by f x a lv vals keeps e placed ma (leads.moves vs t z c f x.heap st);
    }

    -- without fresh paths that no value has
    pub without : (l : Layout) (b : ℕ) (vs : List Var) (s t : Scope) (ops : List Opd) (k : List Todo) (q w : ℕ)
        → Fresher s t → BindsFit t → G l b vs (typing t ops) k q w → G l b vs (typing s ops) k q w
    without l b vs s _ ops k q w fresh_none f g = g
    without l b vs s _ ops k q w (fresh_more {t = t} {b = c} le fr) f g =
        without l b vs s t ops k q w fr f.0
        (moved l b vs (typing t ops) (typing (c ∷ t) ops) k q w (unseen c.ty c.path le f.1 f.2 same) g)

  -- a statement ends, or a block: fewer variables are in scope, and less is known
  pub narrows : (b : ℕ) (vs us : List Var) (s t : Scope) (ops : List Opd) (k : List Todo) (o w : ℕ)
      → us ≡ take (length us) vs → length r.method.params ≤ length us → Narrowed s t → BindsFit t → Covers us t
      → G [] b us (typing t []) k o w → G [] b vs (typing s ops) k o w
  narrows b vs us s t ops k o w is enough nar fit cov g = record {
    by = λ f x a lv vals keeps e placed ma st. g.by f x a lv vals keeps e (fewer f x lv vals placed) ma
        (and_so st (λ z. surely (standing_narrows is enough nar fit cov z)));
  } where
    le : length us ≤ length vs
    le = subst (λ (l : List Var). length l ≤ length vs) (sym is) (short (length us) vs)

    both : (f : Frame) → take (length us) (take (length vs) f.vars) ≡ take (length us) f.vars
    both f = take-take (length us) (length vs) f.vars le

    fewer : (f : Frame) (x : World) (lv vals : List ℤ)
        → Placed p n it r (site_at r hd vs) (trimmed (site_at r hd vs) f) x lv vals
        → Placed p n it r (site_at r hd us) (trimmed (site_at r hd us) f) x lv vals
    fewer f x lv vals e = record {
      class = e.class;
      method = e.method;
      result = e.result;
      scope = ap declared_vars (sym (both f)) ∙ declared_take (length us) (take (length vs) f.vars)
          ∙ ap (take (length us)) e.scope ∙ sym is;
      long = e.long;
      this = e.this;
      locals = λ y among. e.locals y (among_take (length us) (take (length vs) f.vars) y
          (subst (λ (l : List Variable). Among l y) (sym (both f)) among));
      operands = e.operands;
    }

  -- fresh paths are gone, and the latest operand is known alone
  pub settles : (b : ℕ) (vs : List Var) (s t : Scope) (u : Ty) (q : Option ℕ) (ops : List Opd) (k : List Todo) (o w : ℕ)
      → length r.method.params ≤ length vs → Narrowed s t → BindsFit t → Covers vs t → TypeFits t u
      → G [] b vs (typing t (opd u None ∷ [])) k o w → G [] b vs (typing s (opd u q ∷ ops)) k o w
  settles b vs s t u q ops k o w enough nar fit cov fits g = record {
    by = λ f x a lv vals keeps e placed ma st. g.by f x a lv vals keeps e placed ma (and_so st (λ z. surely (record {
      heap = z.heap;
      stays = z.stays;
      no_null = z.no_null;
      at = record {
        fresh = no_views;
        stands = stands_settle u q
            (subst (λ (y : Method). length y.params ≤ length vs) (sym z.stays.method) enough) nar fit cov fits
            z.at.stands;
      };
    })));
  }
