-- Laws of chains, of the least equivalence and of the least set by rules.
use Rattle.std.proofs.Common.{◌≡◌, refl, subst}
use Rattle.jn_reach.specs.Chain.{Chain, here, step, Steps}
use Rattle.jn_reach.specs.Equivalent.{Equivalent, pair, itself, turned, joined, Either, forth, back, IsEquivalence}
use Rattle.jn_reach.specs.Derived.{Derived, seed, rule}

-- a chain, and a chain from its end
pub Chain-joined : {A : Type 0} (E : A → A → Type 0) {a b c : A} → Chain E a b → Chain E b c → Chain E a c
Chain-joined E here q = q
Chain-joined E (step e p) q = step e (Chain-joined E p q)

pub Chain-one : {A : Type 0} (E : A → A → Type 0) {a b : A} → E a b → Chain E a b
Chain-one E e = step e here

-- a chain, and a step from its end
pub Chain-push : {A : Type 0} (E : A → A → Type 0) {a b c : A} → Chain E a b → E b c → Chain E a c
Chain-push E p e = Chain-joined E p (step e here)

-- a set that is closed under the steps holds the end of a chain whose start it holds
pub Chain-closed : {A : Type 0} (E : A → A → Type 0) (P : A → Type 0)
    → ((a b : A) → P a → E a b → P b) → {a b : A} → Chain E a b → P a → P b
Chain-closed E P closed here h = h
Chain-closed E P closed (step {a = x} {b = y} e p) h = Chain-closed E P closed p (closed x y h e)

-- chains are the least reflexive and transitive relation that holds each step
pub Chain-least : {A : Type 0} (E R : A → A → Type 0)
    → ((a : A) → R a a) → ((a b c : A) → R a b → R b c → R a c) → ((a b : A) → E a b → R a b)
    → {a b : A} → Chain E a b → R a b
Chain-least E R reflexive transitive holds (here {a = x}) = reflexive x
Chain-least E R reflexive transitive holds (step {a = x} {b = y} {c = z} e p) =
    transitive x y z (holds x y e) (Chain-least E R reflexive transitive holds p)

-- the steps of E become chains of F
pub Chain-map : {A B : Type 0} (E : A → A → Type 0) (F : B → B → Type 0) (f : A → B)
    → ((a b : A) → E a b → Chain F (f a) (f b)) → {a b : A} → Chain E a b → Chain F (f a) (f b)
Chain-map E F f lift here = here
Chain-map E F f lift (step {a = x} {b = y} e p) = Chain-joined F (lift x y e) (Chain-map E F f lift p)

-- a chain of one step or more
pub Steps-chain : {A : Type 0} (E : A → A → Type 0) (a c : A) → Steps E a c → Chain E a c
Steps-chain E a c s = step s.first s.rest

-- the chain backwards
pub Chain-turned : {A : Type 0} (E : A → A → Type 0) → ((a b : A) → E a b → E b a) → {a b : A} → Chain E a b → Chain E b a
Chain-turned E turn here = here
Chain-turned E turn (step {a = x} {b = y} e p) = Chain-joined E (Chain-turned E turn p) (step (turn x y e) here)

Either-turned : {A : Type 0} (E : A → A → Type 0) (a b : A) → Either E a b → Either E b a
Either-turned E a b (forth e) = back e
Either-turned E a b (back e) = forth e

pub Equivalent-equivalence : {A : Type 0} (E : A → A → Type 0) → IsEquivalence (Equivalent E)
Equivalent-equivalence E = record {
  itself = λ a. itself;
  turned = λ a b e. turned e;
  joined = λ a b c e f. joined e f;
}

-- it is the least equivalence that holds E
pub Equivalent-least : {A : Type 0} (E R : A → A → Type 0) → IsEquivalence R → ((a b : A) → E a b → R a b)
    → {a b : A} → Equivalent E a b → R a b
Equivalent-least E R eq holds (pair {a = x} {b = y} e) = holds x y e
Equivalent-least E R eq holds (itself {a = x}) = eq.itself x
Equivalent-least E R eq holds (turned {a = x} {b = y} e) = eq.turned x y (Equivalent-least E R eq holds e)
Equivalent-least E R eq holds (joined {a = x} {b = y} {c = z} e f) =
    eq.joined x y z (Equivalent-least E R eq holds e) (Equivalent-least E R eq holds f)

-- two things are in one class where a chain of pairs in either direction leads from the one to the other
pub Equivalent-chain : {A : Type 0} (E : A → A → Type 0) {a b : A} → Equivalent E a b → Chain (Either E) a b
Equivalent-chain E (pair e) = step (forth e) here
Equivalent-chain E itself = here
Equivalent-chain E (turned e) = Chain-turned (Either E) (Either-turned E) (Equivalent-chain E e)
Equivalent-chain E (joined e f) = Chain-joined (Either E) (Equivalent-chain E e) (Equivalent-chain E f)

pub chain-Equivalent : {A : Type 0} (E : A → A → Type 0) {a b : A} → Chain (Either E) a b → Equivalent E a b
chain-Equivalent E here = itself
chain-Equivalent E (step (forth e) p) = joined (pair e) (chain-Equivalent E p)
chain-Equivalent E (step (back e) p) = joined (turned (pair e)) (chain-Equivalent E p)

-- the least set holds what a chain of rules makes of what it holds
pub Derived-chain : {A : Type 0} (S : A → Type 0) (E : A → A → Type 0) {a b : A} → Derived S E a → Chain E a b → Derived S E b
Derived-chain S E d here = d
Derived-chain S E d (step e p) = Derived-chain S E (rule d e) p

-- what the least set holds is the end of a chain of rules from a seed
pub chain-Derived : {A : Type 0} (S : A → Type 0) (E : A → A → Type 0) {b : A} → Derived S E b → (a : A) × S a × Chain E a b
chain-Derived S E (seed {a = x} s) = (x, s, here)
chain-Derived S E (rule d e) = let r = chain-Derived S E d in (r.0, r.1, Chain-push E r.2 e)

-- it is the least such set
pub Derived-least : {A : Type 0} (S : A → Type 0) (E : A → A → Type 0) (P : A → Type 0)
    → ((a : A) → S a → P a) → ((a b : A) → P a → E a b → P b) → {a : A} → Derived S E a → P a
Derived-least S E P seeds closed (seed {a = x} s) = seeds x s
Derived-least S E P seeds closed (rule {a = x} {b = y} d e) = closed x y (Derived-least S E P seeds closed d) e

-- from one seed the least set is what chains of rules lead to
pub Chain-derived : {A : Type 0} (E : A → A → Type 0) (a b : A) → Chain E a b → Derived (λ x. x ≡ a) E b
Chain-derived E a b p = Derived-chain (λ x. x ≡ a) E (seed refl) p

pub Derived-one : {A : Type 0} (E : A → A → Type 0) (a b : A) → Derived (λ x. x ≡ a) E b → Chain E a b
Derived-one E a b d = let c = chain-Derived (λ x. x ≡ a) E d in subst (λ x. Chain E x b) c.1 c.2
