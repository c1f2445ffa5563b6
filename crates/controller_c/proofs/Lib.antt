mod Tied
