mod Shielding
