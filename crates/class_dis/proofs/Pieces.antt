-- Texts of some pieces, put one after another, are the lines that they make.
use Rattle.std.proofs.Common.{◌≡◌, ℕ, List, [], ◌++◌, append_assoc}
use Rattle.std.proofs.lemmas.List.{append-nil}

-- the line of a class, where space and feed stand between words and behind the last, and t1 to t3 are fixed words
pub class_pieces : (space feed t1 t2 t3 this super flags o0 o1 o2 o3 o4 o5 o6 o7 : List ℕ) → o1 ≡ o0 ++ (t1 ++ space) → o2 ≡ o1 ++ this → o3 ≡ o2 ++ (space ++ (t2 ++ space)) → o4 ≡ o3 ++ super
    → o5 ≡ o4 ++ (space ++ (t3 ++ space)) → o6 ≡ o5 ++ flags → o7 ≡ o6 ++ feed
    → o7 ≡ o0 ++ ((t1 ++ ((space ++ this) ++ ((space ++ t2) ++ ((space ++ super) ++ ((space ++ t3) ++ ((space ++ flags) ++ [])))))) ++ feed)
class_pieces space feed t1 t2 t3 this super flags o0 o1 o2 o3 o4 o5 o6 o7 e1 e2 e3 e4 e5 e6 e7 = rw (e7, e6, e5, e4, e3, e2, e1) (simp (append_assoc, append-nil))

-- what begins the line of a member
pub head_pieces : (space t name desc flags o0 o1 o2 o3 o4 o5 o6 : List ℕ) → o1 ≡ o0 ++ space → o2 ≡ o1 ++ name → o3 ≡ o2 ++ space → o4 ≡ o3 ++ desc → o5 ≡ o4 ++ (space ++ (t ++ space)) → o6 ≡ o5 ++ flags
    → o6 ≡ o0 ++ ((space ++ name) ++ ((space ++ desc) ++ ((space ++ t) ++ ((space ++ flags) ++ []))))
head_pieces space t name desc flags o0 o1 o2 o3 o4 o5 o6 e1 e2 e3 e4 e5 e6 = rw (e6, e5, e4, e3, e2, e1) (simp (append_assoc, append-nil))

-- the line of a row of an exception table
pub row_pieces : (space feed t start end handler caught o0 o1 o2 o3 o4 o5 o6 o7 o8 o9 : List ℕ) → o1 ≡ o0 ++ (t ++ space) → o2 ≡ o1 ++ start → o3 ≡ o2 ++ space → o4 ≡ o3 ++ end → o5 ≡ o4 ++ space → o6 ≡ o5 ++ handler
    → o7 ≡ o6 ++ space → o8 ≡ o7 ++ caught → o9 ≡ o8 ++ feed
    → o9 ≡ o0 ++ ((t ++ ((space ++ start) ++ ((space ++ end) ++ ((space ++ handler) ++ ((space ++ caught) ++ []))))) ++ feed)
row_pieces space feed t start end handler caught o0 o1 o2 o3 o4 o5 o6 o7 o8 o9 e1 e2 e3 e4 e5 e6 e7 e8 e9 = rw (e9, e8, e7, e6, e5, e4, e3, e2, e1) (simp (append_assoc, append-nil))

-- a tableswitch and a lookupswitch
pub table_pieces : (space t low labels o0 o1 o2 o3 : List ℕ) → o1 ≡ o0 ++ (t ++ space) → o2 ≡ o1 ++ low → o3 ≡ o2 ++ labels → o3 ≡ o0 ++ (t ++ ((space ++ low) ++ labels))
table_pieces space t low labels o0 o1 o2 o3 e1 e2 e3 = rw (e3, e2, e1) (simp append_assoc)

pub lookup_pieces : (space t other pairs o0 o1 o2 o3 : List ℕ) → o1 ≡ o0 ++ t → o2 ≡ o1 ++ (space ++ other) → o3 ≡ o2 ++ pairs → o3 ≡ o0 ++ (t ++ ((space ++ other) ++ pairs))
lookup_pieces space t other pairs o0 o1 o2 o3 e1 e2 e3 = rw (e3, e2, e1) (simp append_assoc)

-- the lines of some code
pub body_pieces : (insns at_end rows end o0 o1 o2 o3 o4 : List ℕ) → o1 ≡ o0 ++ insns → o2 ≡ o1 ++ at_end → o3 ≡ o2 ++ rows → o4 ≡ o3 ++ end → o4 ≡ o0 ++ (insns ++ at_end ++ rows ++ end)
body_pieces insns at_end rows end o0 o1 o2 o3 o4 e1 e2 e3 e4 = rw (e4, e3, e2, e1) (simp append_assoc)
