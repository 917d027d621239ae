pub mod SoundLemmas
