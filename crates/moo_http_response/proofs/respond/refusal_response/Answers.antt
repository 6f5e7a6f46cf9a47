use Rattle.moo_http_response.proofs.respond.refusal_response.Goals as goal

pub returns-in-BadRequest : goal.returns-in-BadRequest
returns-in-BadRequest c = rw c.in-BadRequest.is c.error_response_with_why.ensures

pub returns-in-Coded : goal.returns-in-Coded
returns-in-Coded c = rw c.in-Coded.is c.no_length_response.ensures

pub returns-in-NoLength : goal.returns-in-NoLength
returns-in-NoLength c = rw c.in-NoLength.is c.no_length_response-in-NoLength.ensures

pub returns-in-Forbidden : goal.returns-in-Forbidden
returns-in-Forbidden c = rw c.in-Forbidden.is c.error_response.ensures

pub returns-in-NotFound : goal.returns-in-NotFound
returns-in-NotFound c = rw c.in-NotFound.is c.not_found_response.ensures

pub returns-in-NoNumber : goal.returns-in-NoNumber
returns-in-NoNumber c = rw c.in-NoNumber.is c.not_found_response-in-NoNumber.ensures

pub returns-in-NotAllowed : goal.returns-in-NotAllowed
returns-in-NotAllowed c = rw c.in-NotAllowed.is c.not_allowed_response.ensures

pub returns-in-TooLarge : goal.returns-in-TooLarge
returns-in-TooLarge c = rw c.in-TooLarge.is c.error_response-in-TooLarge.ensures

pub returns-in-Malformed : goal.returns-in-Malformed
returns-in-Malformed c = rw c.in-Malformed.is c.call_response.ensures
