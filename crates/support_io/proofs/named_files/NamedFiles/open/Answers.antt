use Rattle.std.proofs.Common.{ap, ◌∙◌, ℕ, Bool, IsTrue, List, Option, subst}
use Rattle.std.specs.List.{position}
use Rattle.std.specs.Option.{is_some}
use Rattle.support_io.specs.FileList.{File, has_name, name_at, unread}
use Rattle.support_io.proofs.Held.{is_some-position, named-position, unread-position}
use Rattle.support_io.proofs.named_files.NamedFiles.open.Goals as goal

pub returns-clause-opened : goal.returns-clause-opened
returns-clause-opened c =
    let place = c.place_of-self.ensures ∙ ap (λ (files : List File). position (has_name c.args.name.now) files) c.as_slice.ensures.value in
    ap (λ (at : Option ℕ). unread c.args.self.now.files.items at 0) place
    ∙ unread-position c.args.self.now.files.items c.args.name.now

pub returns-clause-found : goal.returns-clause-found
returns-clause-found c =
    let place = c.place_of-self.ensures ∙ ap (λ (files : List File). position (has_name c.args.name.now) files) c.as_slice.ensures.value in
    c.is_some.ensures ∙ ap (λ (at : Option ℕ). is_some at) place
    ∙ is_some-position c.args.self.now.files.items c.args.name.now

pub returns-clause-named : goal.returns-clause-named
returns-clause-named c = λ opens.
    let files = c.args.self.now.files.items in
    let name = c.args.name.now in
    let place = c.place_of-self.ensures ∙ ap (λ (files : List File). position (has_name name) files) c.as_slice.ensures.value in
    let there = c.is_some.ensures ∙ ap (λ (at : Option ℕ). is_some at) place in
    ap (λ (at : Option ℕ). name_at files at) place ∙ named-position files name (subst (λ (b : Bool). IsTrue b) there opens)
