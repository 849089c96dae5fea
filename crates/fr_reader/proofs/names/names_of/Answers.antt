use Rattle.std.proofs.Common.{refl, ap, ◌∙◌, map}
use Rattle.fr_reader.specs.Views.{line_text, variable_text, object_text, actor_text}
use Rattle.fr_reader.proofs.NameLemmas.{map-square}
use Rattle.fr_reader.proofs.names.names_of.Goals as goal

pub returns-clause-variables : goal.returns-clause-variables
returns-clause-variables c = ap (map line_text) (c.in_ok-variable_names.ensures ∙ ap (map (λ v. v.name)) c.deref.ensures.value) ∙ map-square line_text (λ v. v.name) (λ v. v.name) variable_text (λ v. refl) c.args.texts.now.variables.items

pub returns-clause-objects : goal.returns-clause-objects
returns-clause-objects c = ap (map line_text) (c.in_ok-object_names.ensures ∙ ap (map (λ o. o.name)) c.deref-2.ensures.value) ∙ map-square line_text (λ o. o.name) (λ o. o.name) object_text (λ o. refl) c.args.texts.now.objects.items

pub returns-clause-actors : goal.returns-clause-actors
returns-clause-actors c = ap (map line_text) (c.in_ok-actor_names.ensures ∙ ap (map (λ a. a.name)) c.deref-3.ensures.value) ∙ map-square line_text (λ a. a.name) (λ a. a.name) actor_text (λ a. refl) c.args.texts.now.actors.items
