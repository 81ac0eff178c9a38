-- Children of folders, computed.
use Rattle.std.proofs.Common.{◌≡◌, ◌∷◌, [], map, codes, refl, sym}
use Rattle.records.specs.Words.{⊤, same, folder, child, children, member}
use Rattle.records.proofs.ChildrenInOrder.{children_ordered}

first_part : child (codes "b/c") ≡ codes "b/"
first_part = refl

whole : child (codes "b") ≡ codes "b"
whole = refl

-- a path and a folder of one name are both there
both_there : children (folder []) (codes "a" ∷ codes "a/b" ∷ codes "c/d/e" ∷ [])
    ≡ codes "a" ∷ codes "a/" ∷ codes "c/" ∷ []
unfolding same
both_there = sym (children_ordered {X = ⊤} (folder []) (map member (codes "a" ∷ codes "a/b" ∷ codes "c/d/e" ∷ [])) refl)

-- a folder lists its own children, each once
each_once : children (folder (codes "a")) (codes "a" ∷ codes "a/b" ∷ codes "a/b/c" ∷ codes "a/b/d" ∷ codes "z" ∷ [])
    ≡ codes "b" ∷ codes "b/" ∷ []
unfolding same
each_once =
    sym (children_ordered {X = ⊤} (folder (codes "a"))
    (map member (codes "a" ∷ codes "a/b" ∷ codes "a/b/c" ∷ codes "a/b/d" ∷ codes "z" ∷ [])) refl)

-- a name that goes on like the folder's is not in it
no_child : children (folder (codes "a")) (codes "a" ∷ codes "ab" ∷ codes "ab/c" ∷ []) ≡ []
unfolding same
no_child = sym (children_ordered {X = ⊤} (folder (codes "a"))
    (map member (codes "a" ∷ codes "ab" ∷ codes "ab/c" ∷ [])) refl)

-- `-` comes before `/`
by_bytes : children (folder []) (codes "a" ∷ codes "a-b" ∷ codes "a/b" ∷ []) ≡ codes "a" ∷ codes "a-b" ∷ codes "a/" ∷ []
unfolding same
by_bytes = sym (children_ordered {X = ⊤} (folder []) (map member (codes "a" ∷ codes "a-b" ∷ codes "a/b" ∷ [])) refl)
