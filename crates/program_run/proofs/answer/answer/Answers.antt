use Rattle.std.proofs.Common.{◌∙◌, Some, ap}
use Rattle.support_command_line.specs.declared.requests.Request.{Request}
use Rattle.support_command_line.specs.Views.{request_of, texts}
use Rattle.program_run.proofs.Parts.{few_analysed, few_checked, few_claimed, few_converted, few_emulated, few_listed, few_sliced}
use Rattle.program_run.proofs.answer.answer.Goals as goal

pub emulate_request-requires : goal.emulate_request-requires
emulate_request-requires g c =
    record { few = few_emulated (texts c.args.words.now) c.in-Emulate.request (c.in_ok-request.ensures ∙ ap (λ (r : Request). Some (request_of r)) c.in-Emulate.is) }

pub analyse_request-requires : goal.analyse_request-requires
analyse_request-requires g c =
    record { few = few_analysed (texts c.args.words.now) c.in-Analyse.request (c.in_ok-request.ensures ∙ ap (λ (r : Request). Some (request_of r)) c.in-Analyse.is) }

pub check_request-requires : goal.check_request-requires
check_request-requires g c =
    record { few = few_checked (texts c.args.words.now) c.in-Check.request (c.in_ok-request.ensures ∙ ap (λ (r : Request). Some (request_of r)) c.in-Check.is) }

pub convert_request-requires : goal.convert_request-requires
convert_request-requires g c =
    record { few = few_converted (texts c.args.words.now) c.in-Convert.request (c.in_ok-request.ensures ∙ ap (λ (r : Request). Some (request_of r)) c.in-Convert.is) }

pub list_request-requires : goal.list_request-requires
list_request-requires g c =
    record { few = few_listed (texts c.args.words.now) c.in-List.request (c.in_ok-request.ensures ∙ ap (λ (r : Request). Some (request_of r)) c.in-List.is) }

pub slice_request-requires : goal.slice_request-requires
slice_request-requires g c =
    record { few = few_sliced (texts c.args.words.now) c.in-Slice.request (c.in_ok-request.ensures ∙ ap (λ (r : Request). Some (request_of r)) c.in-Slice.is) }

pub claims_request-requires : goal.claims_request-requires
claims_request-requires g c =
    record { few = few_claimed (texts c.args.words.now) c.in-Claims.request (c.in_ok-request.ensures ∙ ap (λ (r : Request). Some (request_of r)) c.in-Claims.is) }
