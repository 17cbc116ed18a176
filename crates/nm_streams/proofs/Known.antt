-- Known bytes that grow.
use Rattle.std.proofs.Common.{◌≡◌, ℕ, List, [], ◌++◌, Option, Some, None, refl, sym, ap, ◌∙◌, append_assoc, IfSome}
use Rattle.std.proofs.lemmas.List.{append-nil}
use Rattle.std.specs.Io.KnownBytes.{Appends, Keeps, Consumes, IsAtEnd}

pub appends_more : (a b c : Option (List ℕ)) (xs ys : List ℕ) → Appends a b xs → Appends b c ys → Appends a c (xs ++ ys)
appends_more None b c xs ys p q = tt
appends_more (Some ks) None c xs ys p q = absurd p
appends_more (Some ks) (Some bs) None xs ys p q = q
appends_more (Some ks) (Some bs) (Some cs) xs ys p q = q ∙ (ap (λ (zs : List ℕ). zs ++ ys) p ∙ append_assoc ks xs ys)

pub appends_kept : (a b c : Option (List ℕ)) (xs : List ℕ) → Appends a b xs → Keeps b c → Appends a c xs
appends_kept None b c xs p q = tt
appends_kept (Some ks) None c xs p q = absurd p
appends_kept (Some ks) (Some bs) None xs p q = q
appends_kept (Some ks) (Some bs) (Some cs) xs p q = q ∙ p

pub appends_none : (a : Option (List ℕ)) → Appends a a []
appends_none None = tt
appends_none (Some ks) = sym (append-nil ks)

pub appends_nothing : (a b c : Option (List ℕ)) (xs : List ℕ) → Appends a b xs → Appends b c [] → Appends a c xs
appends_nothing None b c xs p q = tt
appends_nothing (Some ks) None c xs p q = absurd p
appends_nothing (Some ks) (Some bs) None xs p q = q
appends_nothing (Some ks) (Some bs) (Some cs) xs p q = q ∙ (append-nil bs ∙ p)

pub consumes_more : (a b c : Option (List ℕ)) (xs ys : List ℕ) → Consumes a b xs → Consumes b c ys → Consumes a c (xs ++ ys)
consumes_more None b c xs ys p q = tt
consumes_more (Some ks) None c xs ys p q = absurd p
consumes_more (Some ks) (Some bs) None xs ys p q = q
consumes_more (Some ks) (Some bs) (Some cs) xs ys p q = p ∙ (ap (λ (zs : List ℕ). xs ++ zs) q ∙ sym (append_assoc xs ys cs))

pub consumes_none : (a : Option (List ℕ)) → Consumes a a []
consumes_none None = tt
consumes_none (Some ks) = refl

pub consumed_all : (a b c : Option (List ℕ)) (xs : List ℕ) → Consumes a b xs → Consumes b c [] → IsAtEnd c → IfSome a (λ ks. xs ≡ ks)
consumed_all None b c xs p q e = tt
consumed_all (Some ks) None c xs p q e = absurd p
consumed_all (Some ks) (Some bs) None xs p q e = absurd q
consumed_all (Some ks) (Some bs) (Some cs) xs p q e = sym (p ∙ (ap (λ (zs : List ℕ). xs ++ zs) (q ∙ e) ∙ append-nil xs))

pub consumes_nothing : (a : Option (List ℕ)) (xs : List ℕ) → xs ≡ [] → Consumes a a xs
consumes_nothing None xs e = tt
consumes_nothing (Some ks) xs e = rw e refl
