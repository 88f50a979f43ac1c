-- A variable is read, and a text is printed.
use Rattle.std.proofs.Common.{◌≡◌, ℕ, suc, ◌+◌, List, [], ◌∷◌, ◌++◌, length, map, reverse, Option, Some, Bool, true, false, refl, sym, ap, ◌∙◌, subst, nat_eq}
use Rattle.std.specs.Prelude.{ℤ, slice_get}
use Rattle.std.specs.List.{find}
use Rattle.std.proofs.lemmas.List.{reverse-append, map-append}
use Rattle.jn_steps.specs.Steps.{Goes, Faults, on_some}
use Rattle.jn_steps.specs.Numbers.{line_of}
use Rattle.jn_base.specs.declared.tree.Name.{Name}
use Rattle.jn_code.specs.declared.image.Text.{Text}
use Rattle.jn_base.specs.declared.tree.Program.{Program}
use Rattle.jn_base.specs.declared.names.Var.{Var}
use Rattle.jn_base.specs.Atoms.{Among, first, later}
use Rattle.jn_code.specs.declared.instr.Instr.TheVariants as ins
use Rattle.jn_code.specs.declared.image.Image.{Image}
use Rattle.jn_code.specs.declared.image.Code.{Code}
use Rattle.jn_code.specs.Machine.{obey}
use Rattle.jn_code.specs.Machine as machine
use Rattle.jn_sem.specs.declared.outcome.Why.{Why}
use Rattle.jn_sem.specs.declared.outcome.Why.TheVariants as why
use Rattle.jn_sem.specs.Terms.{Site}
use Rattle.jn_sem.specs.Acts.{Read, PrintText, Todo, todo}
use Rattle.jn_sem.specs.State.{Heap, Frame, Variable, declared_var, declared_vars, is_named, variable}
use Rattle.jn_sem.specs.Does.{Stuck, Did}
use Rattle.jn_agree.specs.Naming.{Naming}
use Rattle.jn_agree.specs.Matches.{World}
use Rattle.jn_agree.specs.Follows.{Knows, blank, Follows}
use Rattle.jn_agree.specs.Places.{At, newest}
use Rattle.jn_node_laws.specs.Cont.{of_frame, Layout, PlacedOn, active, LeadsTo}
use Rattle.jn_node_laws.specs.Facts.{HasText}
use Rattle.jn_node_laws.proofs.Ways.{w_some}
use Rattle.jn_node_laws.proofs.Nodes.{GoOn, Go, Next, node, stuck}
use Rattle.jn_node_laws.proofs.Simple.{changes, no_fact}

-- ---- the newest variable of a name, and its declaration

-- one of two lists, one behind the other
pub among_one : {A : Type 0} (xs : List A) (y x : A) (Q : Type 0) → Among (xs ++ y ∷ []) x → (Among xs x → Q) →
    (y ≡ x → Q)
    → Q
among_one [] y _ Q first front back = back refl
among_one [] y x Q (later a) front back = elim a [ ]
among_one (z ∷ xs) y _ Q first front back = front first
among_one (z ∷ xs) y x Q (later a) front back = among_one xs y x Q a (λ b. front (later b)) back

-- what stands in the reverse stands in the list
among_back : {A : Type 0} (xs : List A) (x : A) → Among (reverse xs) x → Among xs x
among_back [] x a = a
among_back {A} (y ∷ ys) x a = among_one (reverse ys) y x (Among (y ∷ ys) x)
    (subst (λ (l : List A). Among l x) (reverse-append (y ∷ []) ys) a) (λ b. later (among_back ys x b))
    (λ e. subst (λ (x : A). Among (y ∷ ys) x) e first)

found_among : {A : Type 0} (f : A → Bool) (xs : List A) (x : A) → find f xs ≡ Some x → Among xs x
found_among f [] x e = cc
found_among {A} f (y ∷ ys) x e = at (f y) refl (found_among f ys x)
  where
    at : (b : Bool) → f y ≡ b → (find f ys ≡ Some x → Among ys x) → Among (y ∷ ys) x
    at true is below = let q : y ≡ x = cc in subst (λ (x : A). Among (y ∷ ys) x) q first
    at false is below = later (below cc)

-- what is found among the images
found_map : {A B : Type 0} (g : A → B) (f : B → Bool) (xs : List A) (x : A) → find (λ (x : A). f (g x)) xs ≡ Some x →
    find f (map g xs) ≡ Some (g x)
found_map g f [] x e = cc
found_map {A} {B} g f (y ∷ ys) x e = at (f (g y)) refl (found_map g f ys x)
  where
    at : (b : Bool) → f (g y) ≡ b → (find (λ (x : A). f (g x)) ys ≡ Some x → find f (map g ys) ≡ Some (g x)) →
        find f (map g (y ∷ ys)) ≡ Some (g x)
    at true is below = let q : y ≡ x = cc in cc
    at false is below = let h : find f (map g ys) ≡ Some (g x) = below cc in cc

map_back : {A B : Type 0} (g : A → B) (xs : List A) → map g (reverse xs) ≡ reverse (map g xs)
map_back g [] = refl
map_back {A} {B} g (x ∷ xs) =
    ap (λ (l : List A). map g l) (reverse-append (x ∷ []) xs) ∙ map-append g (reverse xs) (x ∷ [])
    ∙ ap (λ (l : List B). l ++ g x ∷ []) (map_back g xs) ∙ sym (reverse-append (g x ∷ []) (map g xs))

pub declared_among : (l : List Variable) (w : Variable) → Among l w → Among (declared_vars l) w.var
declared_among [] w a = elim a [ ]
declared_among (k ∷ l) _ first = first
declared_among (k ∷ l) w (later a) = later (declared_among l w a)

-- the newest declaration of a name is that of its variable
newest_declared : (vars : List Variable) (x : Name) (y : Variable) → variable vars x ≡ Some y →
    newest (declared_vars vars) x ≡ Some y.var
newest_declared vars x y e =
    ap (λ (l : List Var). find (λ (v : Var). nat_eq v.name.0 x.0) l) (sym (map_back declared_var vars))
    ∙ found_map declared_var (λ (v : Var). nat_eq v.name.0 x.0) (reverse vars) y e

pub among_variables : (vars : List Variable) (x : Name) (y : Variable) → variable vars x ≡ Some y → Among vars y
among_variables vars x y e = among_back vars y (found_among (is_named x) (reverse vars) y e)

module _ (p : Program) (i : Image) (n : Naming) (m : ℕ) (K : Knows) (T : Type 0) (Stands : T → Frame → Heap → Type 0)
    (code : ℕ) (it : Code) (there : slice_get i.codes code ≡ Some it) (r : Frame) where
  -- the declaration that is read is that of the place
  pub same_var : (l : Layout) (here : Site) (f : Frame) (x : World) (vars vals : List ℤ) (name : Name) (v : Var)
      (y : Variable)
      → PlacedOn p n it r here l f x vars vals → newest here.vars name ≡ Some v → variable f.vars name ≡ Some y →
      v ≡ y.var
  same_var l here f x vars vals name v y placed is e =
      let there : newest here.vars name ≡ Some y.var = ap (λ (l : List Var). newest l name) (sym placed.scope)
      ∙ newest_declared f.vars name y e in
      same v y.var (sym is ∙ there)
    where
      same : (v w : Var) → Some v ≡ Some w → v ≡ w
      same v w e = cc

  pub read : (l : Layout) (b : ℕ) (here : Site) (u t : T) (x : Name) (v : Var) (k : List Todo) (s w : ℕ) →
      newest here.vars x ≡ Some v
      → At it.instrs s (ins.Load v.path) → LeadsTo p i n m K T Stands code it r here (Read x) k u t
      → GoOn p i n m K T Stands code it there r (of_frame ∷ l) b here t k (s + 1) (20 + w)
      → GoOn p i n m K T Stands code it there r l (suc b) here u (todo (length here.vars) (Read x) ∷ k) s w
  read l b here u t x v k s w is at leads h =
      node p i n m K T Stands code it there r l b here u t (Read x) k s w leads
      (no_fact p i n m K T Stands code it there r) (λ f h st. tt)
      (λ f y a vars vals keeps ft placed ma fact d step.
      let g = active code s vars vals keeps in
      let Q : Did → Type 0 = λ d. Follows p i n m blank
      (Next p i n m K T Stands code it there r here t b) r d y g a w in
      let no_way : (d : Did) (w : Why) → d ≡ Faults (Stuck w) → Q d = λ d2 why e.
      stuck p i n m K T Stands code it there r b here t why y g a w d2 e in
      w_some Q no_way (variable f.vars x) why.Missing _ d step (λ z zis step.
      let own = placed.locals z (among_variables f.vars x z zis) in
      let one : slice_get vars v.path ≡ Some own.0 = ap (λ (v : Var). slice_get vars v.path)
      (same_var l here f y vars vals x v z placed is zis) ∙ own.1 in
      changes p i n m K T Stands code it there r l (of_frame ∷ l) b here t k s w
      (ins.Load v.path) at h f y a vars vals keeps ft placed ma
      (z.value ∷ f.vals) (own.0 ∷ vals) [] (record { are = (own.2, placed.operands.are) })
      (ap (λ (o : Option ℤ). on_some machine.Stuck o (λ z. machine.next g (z ∷ vals) a)) one) d step))

  -- the image has the program's text at that number
  pub print_text : (b : ℕ) (here : Site) (u t : T) (x : ℕ) (k : List Todo) (s w : ℕ) → At it.instrs s (ins.Printt x)
      → HasText p i x → LeadsTo p i n m K T Stands code it r here (PrintText x) k u t
      → Go p i n m K T Stands code it there r b here t k (s + 1) (20 + w)
      → Go p i n m K T Stands code it there r (suc b) here u (todo (length here.vars) (PrintText x) ∷ k) s w
  print_text b here u t x k s w at has leads h =
      node p i n m K T Stands code it there r [] b here u t (PrintText x) k s w leads
      (no_fact p i n m K T Stands code it there r) (λ f h st. tt)
      (λ f y a vars vals keeps ft placed ma fact d step.
      let g = active code s vars vals keeps in
      let Q : Did → Type 0 = λ d. Follows p i n m blank
      (Next p i n m K T Stands code it there r here t b) r d y g a w in
      let no_way : (d : Did) (w : Why) → d ≡ Faults (Stuck w) → Q d = λ d2 why e.
      stuck p i n m K T Stands code it there r b here t why y g a w d2 e in
      w_some Q no_way (slice_get p.texts x) why.Missing _ d step (λ text is step.
      let own = has text is in
      changes p i n m K T Stands code it there r [] [] b here t k s w (ins.Printt x) at h f y a vars vals keeps ft
      placed ma
      f.vals vals (line_of text.bytes) placed.operands
      (ap (λ (o : Option Text). on_some machine.Stuck o
      (λ (text : Text). machine.next_printing g vals a (line_of text.bytes))) own.there
      ∙ ap (λ (bytes : List ℕ). let d : machine.Did = Goes (active code (s + 1) vars vals keeps) a (line_of bytes) in d)
      own.same) d step))
