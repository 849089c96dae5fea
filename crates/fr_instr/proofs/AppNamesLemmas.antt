-- The names of an application, as lists of texts.
use Rattle.std.proofs.Common.{◌≡◌, ◌++◌, ◌∙◌, ℕ, List, [], ◌∷◌, Result, Ok, Err, IfOk, map, string_bytes, refl, ap}
use Rattle.fr_program.specs.declared.parts.Variable.{Variable}
use Rattle.fr_program.specs.declared.parts.Object.{Object}
use Rattle.fr_program.specs.declared.parts.Actor.{Actor}
use Rattle.fr_program.specs.Limits.{names_of}
use Rattle.fr_program.specs.Program.{Program, VariableOf, ObjectOf, ActorOf}
use Rattle.fr_program.specs.View.{variable_of, object_of, actor_of}
use Rattle.fr_instr.specs.Names.{NamesOf}
use Rattle.fr_instr.specs.AppNames.{names_in}

map_after : {A B C : Type 0} (f : B → C) (g : A → B) (h : A → C) → ((x : A) → h x ≡ f (g x)) → (xs : List A) → map h xs ≡ map f (map g xs)
map_after f g h e [] = refl
map_after f g h e (x ∷ xs) = rw (e x, map_after f g h e xs) refl

pub variable_texts : (P : Program) (vs : List Variable) (ts : List (List ℕ)) → map variable_of vs ≡ P.variables → ts ≡ map (λ v. string_bytes v.name) vs → ts ≡ (names_in P).variables
variable_texts P vs ts is same =
    same ∙ (map_after (λ (v : VariableOf). v.name) variable_of (λ (v : Variable). string_bytes v.name) (λ v. refl) vs ∙ ap (map (λ (v : VariableOf). v.name)) is)

pub object_texts : (P : Program) (os : List Object) (ts : List (List ℕ)) → map object_of os ≡ P.objects → ts ≡ map (λ o. string_bytes o.name) os → ts ≡ (names_in P).objects
object_texts P os ts is same =
    same ∙ (map_after (λ (o : ObjectOf). o.name) object_of (λ (o : Object). string_bytes o.name) (λ o. refl) os ∙ ap (map (λ (o : ObjectOf). o.name)) is)

pub actor_texts : (P : Program) (xs : List Actor) (ts : List (List ℕ)) → map actor_of xs ≡ P.actors → ts ≡ map (λ a. string_bytes a.name) xs → ts ≡ (names_in P).actors
actor_texts P xs ts is same =
    same ∙ (map_after (λ (a : ActorOf). a.name) actor_of (λ (a : Actor). string_bytes a.name) (λ a. refl) xs ∙ ap (map (λ (a : ActorOf). a.name)) is)

pub all_three : (P : Program) (vs os xs : List (List ℕ)) → vs ≡ (names_in P).variables → os ≡ (names_in P).objects → xs ≡ (names_in P).actors → vs ++ (os ++ xs) ≡ names_of P
all_three P vs os xs v o a = rw (v, o, a) refl

abbrev names_made : List (List ℕ) → List (List ℕ) → List (List ℕ) → NamesOf
names_made vs os xs = record { variables = vs; objects = os; actors = xs }

same_names : (P : Program) (n : NamesOf) → n.variables ≡ (names_in P).variables → n.objects ≡ (names_in P).objects → n.actors ≡ (names_in P).actors → n ≡ names_in P
same_names P n v o a =
    let whole : names_made n.variables n.objects n.actors ≡ names_made (names_in P).variables (names_in P).objects (names_in P).actors = rw (v, o, a) refl in
    whole

pub three_names : {E : Type 0} (P : Program) (r : Result NamesOf E) (vs os xs : List (List ℕ)) → vs ≡ (names_in P).variables → os ≡ (names_in P).objects → xs ≡ (names_in P).actors
    → IfOk r (λ n. n.variables ≡ vs) → IfOk r (λ n. n.objects ≡ os) → IfOk r (λ n. n.actors ≡ xs) → IfOk r (λ n. n ≡ names_in P)
three_names P (Ok n) vs os xs v o a h g k = same_names P n (h ∙ v) (g ∙ o) (k ∙ a)
three_names P (Err e) vs os xs v o a h g k = tt
