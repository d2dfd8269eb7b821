mod LaneLemmas
mod ScanLemmas
