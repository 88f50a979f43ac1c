-- Each question has one reply at most, and surely one.
use Rattle.std.proofs.Common.{Bool, true, false, Option, Some, None, Result, ◌∷◌, []}
use Rattle.jn_base.specs.declared.names.Role.TheVariants as role
use Rattle.jn_base.specs.declared.tree.Program.{Program}
use Rattle.jn_base.specs.declared.refusal.Refusal.{Refusal}
use Rattle.jn_base.specs.Universe.{InUniverse}
use Rattle.jn_base.specs.ResolveTypes.{mask_names}
use Rattle.jn_base.specs.TableRules.{DeclarationsPass}
use Rattle.jn_sem.specs.Values.{Masked}
use Rattle.jn_sem.specs.Below.{Below}
use Rattle.jn_sem.specs.NotFamily.{Lacks}
use Rattle.jn_sem.specs.Terms.{spot_at, vars_at}
use Rattle.jn_sem.specs.Does.{IsBody, IsConstructorBody}
use Rattle.jn_rules.specs.Plans.{Query, OfTerm, OfType, OfView, OfFieldType, OfConstraint, IsBelow, OfField, OfMethod, OfBody, OfConstructor, FirstMask, IsMasked, WithoutMask, EitherMasks, Grants, OfSharing, IsTop, LacksFamily, Reply, Plan}
use Rattle.jn_rules.specs.Questions.{Answers, Finds, header_site, IsFoundField, IsMethodOf, IsFirstMask, KeptMask, InEither, IsGrant, Means, Gives}
use Rattle.jn_rules.specs.LawsOfPlans.{RepliesAreThere}
use Rattle.jn_rules.proofs.PlanLaws.{plan_one, plan_there, notes_one}
use Rattle.jn_laws.specs.Surely.{Surely}
use Rattle.jn_base.specs.ProgramNames.{IsNamed}
use Rattle.jn_rule_laws.specs.LawsOfRules.{OneOutcome}
use Rattle.jn_rule_laws.proofs.RepliesOne.{replies_one}
use Rattle.jn_rule_laws.proofs.ResolveThere.{by_cases, term_there, type_there, view_there, constraint_there, masks_there}
use Rattle.jn_rule_laws.proofs.SharingThere.{sharing_there}

answer_there : (T : Type 0) → Surely ((b : Bool) × Answers T b)
answer_there T free = by_cases (λ (t : T). free (true, t)) (λ n. free (false, n))

finding_there : {A : Type 0} (Is : A → Type 0) → Surely ((o : Option A) × Finds Is o)
finding_there {A} Is free = by_cases (λ (x : (a : A) × Is a). free (Some x.0, x.1)) (λ n. free (None, λ a h. n (a, h)))

pub reply_there : (p : Program) (q : Query) → Surely ((a : Reply q) × Means p q a)
reply_there p (OfTerm r at t) free = term_there p (spot_at at r) (vars_at at) t free
reply_there p (OfType at t) free = type_there p (mask_names p) (spot_at at role.Value) (vars_at at) t free
reply_there p (OfView at v) free = view_there p (mask_names p) (spot_at at role.View) (vars_at at) v free
reply_there p (OfFieldType Q f t) free = type_there p (mask_names p) (spot_at (header_site Q f) role.Field) (record { list = [] }) t free
reply_there p (OfConstraint Q m c) free = constraint_there p (header_site Q m) c free
reply_there p (IsBelow s t u) free = answer_there (Below p s t u) free
reply_there p (OfField s t f) free = finding_there (IsFoundField p s t f) free
reply_there p (OfMethod s t m) free = finding_there (IsMethodOf p s t m) free
reply_there p (OfBody B m) free = finding_there (IsBody p B m) free
reply_there p (OfConstructor B) free = finding_there (IsConstructorBody p B) free
reply_there p (FirstMask m) free = finding_there (IsFirstMask p m) free
reply_there p (IsMasked m f) free = answer_there (Masked (mask_names p) m f) free
reply_there p (WithoutMask m f) free = masks_there (KeptMask (mask_names p) m f) free
reply_there p (EitherMasks m n) free = masks_there (InEither m n) free
reply_there p (Grants s c t u) free = answer_there (IsGrant p s c t u) free
reply_there p (OfSharing s t u) free = sharing_there p s t u free
reply_there p (IsTop n) free = answer_there (InUniverse p (n ∷ [])) free
reply_there p (LacksFamily n) free = answer_there (Lacks p n) free

pub replies_there : (p : Program) → RepliesAreThere p
replies_there p q none = reply_there p q (λ r. none r.0 r.1)

pub plan_gives : {A : Type 0} (p : Program) (x : Plan A) → Surely ((o : Result A Refusal) × Gives p x o)
plan_gives p x deny = plan_there (replies_there p) x (λ o g. deny (o, g))

pub one_outcome : {A : Type 0} (p : Program) → DeclarationsPass p → IsNamed p → (x : Plan A) → OneOutcome p x
one_outcome p ok its x = record { one = plan_one (replies_one p ok its) x; marks = notes_one (replies_one p ok its) x }
