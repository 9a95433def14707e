-- The numbers of a certificate, read off the bytes of its file by a header that was read from them.
use Rattle.std.proofs.Common.{◌≡◌, ℕ, ◌+◌, ◌<◌, List, sym, ap, ◌∙◌, subst}
use Rattle.certificate.specs.Certificates.{size, load, count, offered, packed}
use Rattle.layout.specs.declared.header.Header.{Header}
use Rattle.layout.specs.Layout.{byte, header_of, header_length, position_start, answer_start, packed_start, certificate_of}
use Rattle.layout.proofs.Meanings.{size_is, load_is, count_is, offered_is, packed_is}

module _ (file : List ℕ) (h : Header) (e : h ≡ header_of file) where
  pub size_there : (k : ℕ) → k < h.classes → byte file (header_length + k) ≡ size (certificate_of file) k
  size_there k b = sym (size_is file k (subst (λ (x : Header). k < x.classes) e b))

  pub load_there : (i j p : ℕ) → i < h.rows → j < h.bins → p ≡ position_start h i → byte file (p + j) ≡ load (certificate_of file) i j
  load_there i j p = subst (λ (x : Header). i < x.rows → j < x.bins → p ≡ position_start x i → byte file (p + j) ≡ load (certificate_of file) i j) (sym e)
      (λ l b q. ap (λ y. byte file (y + j)) q ∙ sym (load_is file i l j b))

  pub count_there : (i k p : ℕ) → i < h.rows → k < h.classes → p ≡ position_start h i → byte file (p + h.bins + k) ≡ count (certificate_of file) i k
  count_there i k p = subst (λ (x : Header). i < x.rows → k < x.classes → p ≡ position_start x i → byte file (p + x.bins + k) ≡ count (certificate_of file) i k) (sym e)
      (λ l b q. ap (λ y. byte file (y + (header_of file).bins + k)) q ∙ sym (count_is file i l k b))

  pub offered_there : (i p : ℕ) → i < h.rows → p ≡ answer_start h i → byte file p ≡ offered (certificate_of file) i
  offered_there i p = subst (λ (x : Header). i < x.rows → p ≡ answer_start x i → byte file p ≡ offered (certificate_of file) i) (sym e)
      (λ l q. ap (byte file) q ∙ sym (offered_is file i l))

  pub packed_there : (i j k p : ℕ) → i < h.rows → j < h.bins → k < h.classes → p ≡ packed_start h i j → byte file (p + k) ≡ packed (certificate_of file) i j k
  packed_there i j k p = subst (λ (x : Header). i < x.rows → j < x.bins → k < x.classes → p ≡ packed_start x i j → byte file (p + k) ≡ packed (certificate_of file) i j k) (sym e)
      (λ l b d q. ap (λ y. byte file (y + k)) q ∙ sym (packed_is file i l j k b d))
