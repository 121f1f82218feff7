-- The pieces of a report, put one after another, are its lines.
use Rattle.std.proofs.Common.{◌≡◌, ◌++◌, ℕ, List, [], append_assoc}

-- t1 to t3 are the words at the heads of the lines, and feed is what ends a line
pub headed : (feed t1 t2 t3 refused level o0 o1 o2 o3 o4 o5 : List ℕ) → o1 ≡ o0 ++ ((t1 ++ feed) ++ t2) → o2 ≡ o1 ++ refused → o3 ≡ o2 ++ (feed ++ t3)
    → o4 ≡ o3 ++ level → o5 ≡ o4 ++ feed → o5 ≡ o0 ++ ((t1 ++ feed) ++ ((t2 ++ refused) ++ feed) ++ ((t3 ++ level) ++ feed))
headed feed t1 t2 t3 refused level o0 o1 o2 o3 o4 o5 e1 e2 e3 e4 e5 = rw (e5, e4, e3, e2, e1) (simp append_assoc)

-- a heading, where a chain begins, its steps, and the end
pub chained : (heading start steps end o0 o1 o2 o3 o4 : List ℕ) → o0 ≡ [] → o1 ≡ o0 ++ heading → o2 ≡ o1 ++ start → o3 ≡ o2 ++ steps → o4 ≡ o3 ++ end
    → o4 ≡ heading ++ (start ++ steps) ++ end
chained heading start steps end o0 o1 o2 o3 o4 e0 e1 e2 e3 e4 = rw (e4, e3, e2, e1, e0) (simp append_assoc)

-- a heading, what follows, and the end
pub ended : (heading body end o0 o1 o2 o3 : List ℕ) → o0 ≡ [] → o1 ≡ o0 ++ heading → o2 ≡ o1 ++ body → o3 ≡ o2 ++ end → o3 ≡ heading ++ body ++ end
ended heading body end o0 o1 o2 o3 e0 e1 e2 e3 = rw (e3, e2, e1, e0) (simp append_assoc)
