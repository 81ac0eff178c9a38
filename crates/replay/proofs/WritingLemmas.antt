-- Replies that are written one after another.
use Rattle.std.proofs.Common.{◌≡◌, ◌+◌, ◌<◌, ◌∷◌, ◌++◌, ◌∙◌, ℕ, List, [], length, take, get_or, Option, Vec, Global, ap}
use Rattle.records.specs.Words.{sym, subst, append_assoc, Appends, concat, append-nil, take_more, map_push}
use Rattle.std.proofs.KnownBytes.{Appends-trans}
use Rattle.hub.specs.Words.{bytes_of}

concat-push : (xs : List (List ℕ)) (x : List ℕ) → concat (xs ++ x ∷ []) ≡ concat xs ++ x
concat-push [] x = append-nil x
concat-push (y ∷ ys) x = ap (λ (l : List ℕ). y ++ l) (concat-push ys x) ∙ sym (append_assoc y (concat ys) x)

bytes_more : (replies : List (Vec ℕ Global)) (i : ℕ) (reply : Vec ℕ Global) → i < length replies
    → reply ≡ get_or replies i reply
    → concat (bytes_of (take (i + 1) replies)) ≡ concat (bytes_of (take i replies)) ++ reply.items
bytes_more replies i reply lt is =
    ap (λ (l : List (Vec ℕ Global)). concat (bytes_of l))
    (take_more replies i reply lt ∙ ap (λ (x : Vec ℕ Global). take i replies ++ x ∷ []) (sym is))
    ∙ ap concat (map_push (λ (r : Vec ℕ Global). r.items) (take i replies) reply)
    ∙ concat-push (bytes_of (take i replies)) reply.items

pub Appends-more : (old mid new : Option (List ℕ)) (replies : List (Vec ℕ Global)) (i : ℕ) (reply : Vec ℕ Global)
    (bytes : List ℕ)
    → i < length replies → reply ≡ get_or replies i reply → bytes ≡ reply.items
    → Appends old mid (concat (bytes_of (take i replies))) → Appends mid new bytes
    → Appends old new (concat (bytes_of (take (i + 1) replies)))
Appends-more old mid new replies i reply bytes lt is same before now =
    subst (Appends old new) (sym (bytes_more replies i reply lt is))
    (Appends-trans old mid new (concat (bytes_of (take i replies))) reply.items before
    (subst (Appends mid new) same now))
