-- The head of a response, written at once.
use Rattle.moo_http_response.proofs.Words.{◌≡◌, ℕ, List, [], ◌++◌}
use Rattle.std.proofs.Common.{append_assoc, append-nil}

-- the pieces of a head, one after another, are its lines
pub pieces_are : (http code space reason end typed kind named length close allow : List ℕ)
    → http ++ (code ++ (space ++ (reason ++ ((end ++ typed) ++ (kind ++ ((end ++ named) ++ (length ++ ((end ++ (close ++ end)) ++ (allow ++ (end ++ []))))))))))
    ≡ (((((http ++ code) ++ space) ++ reason) ++ end) ++ (typed ++ (kind ++ end)) ++ ((named ++ length) ++ end) ++ (close ++ end) ++ allow) ++ end
pieces_are http code space reason end typed kind named length close allow = simp (append_assoc, append-nil)
