use Rattle.std.proofs.Common.{◌≡◌, ◌∙◌, ◌++◌, rules, Result, Ok, Err}
use Rattle.std.specs.Prelude.{⊤}
use Rattle.instants.specs.declared.refusal.Refusal.{Refusal}
use Rattle.instants.specs.Refusals.{check}
use Rattle.instants.proofs.FirstRefusal.{Refused, refused_first}
use Rattle.files.specs.Files.{file_cases}
use Rattle.compare.specs.Inner.{files_refusal}
use Rattle.compare.proofs.Pair.refusal.Goals as goal

pub unwrap_err-requires : goal.unwrap_err-requires
unfolding files_refusal
unwrap_err-requires c =
    let f : Refused {A = Result ⊤ Refusal} Err (file_cases c.args.self.s.now ++ file_cases c.args.self.t.now) (check (file_cases c.args.self.s.now ++ file_cases c.args.self.t.now)) =
    refused_first Err (file_cases c.args.self.s.now ++ file_cases c.args.self.t.now) (Ok tt) c.requires in
    let e : c.check.result ≡ Err f.it = c.check.ensures ∙ f.checked in
    search rules
